-- What each call says, and exactly when: a rule for each answer, in the order of the paper. Assumes nothing.
use Rattle.std.specs.Prelude.{◌≡◌, List, ℕ, suc, ◌+◌, ◌*◌, ◌^◌, ◌≤◌, ◌<◌, max, length, get_or, replicate}
use Rattle.meaning.specs.Numbers.{Refusal, UNLIKE, OUT, VECTOR, NO_ROOM, file_A, file_B, file_grouping, no_file, START, STEP, OUTPUTS}
use Rattle.meaning.specs.Sheet.{Sheet, refused, value, inputs, reading_of_sheet, reading_of_classes, bytes_of_sheet, bytes_of_classes}
use Rattle.meaning.specs.Joint.{first, total, T}
use Rattle.meaning.specs.Room.{start_count, step_count}
use Rattle.meaning.specs.Answer.{Answer, equivalent, undecided, wrote, refusal, check_answer, refine_answer}
use Rattle.promises.specs.Correspondence.{SameOutputs, StartEqual, StepEqual, Start, Step, PairedAt, PairedOutputs}

-- ## Which of many

-- i is the least of the first n that P does not hold of
pub record LeastFailing (n : ℕ) (P : ℕ → Type 0) (i : ℕ) : Type 0 where
  pub below : i < n
  pub fails : P i → ⊥
  pub before : (v : ℕ) → v < i → P v

-- m is the greatest of c 0 to c r, and of b
pub record Greatest (b : ℕ) (c : ℕ → ℕ) (r m : ℕ) : Type 0 where
  pub base : b ≤ m
  pub each : (i : ℕ) → i ≤ r → c i ≤ m
  pub least : (k : ℕ) → b ≤ k → ((i : ℕ) → i ≤ r → c i ≤ k) → m ≤ k

-- ## Write and run

pub data WriteSays (a : List ℕ) (space : ℕ) (x : Answer) : Type 0 where
  a_refused : (k : Refusal) (at : ℕ) → reading_of_sheet a ≡ refused k at → x ≡ refusal k file_A at → WriteSays a space x
  too_small : (A : Sheet) → reading_of_sheet a ≡ value A → space < length (bytes_of_sheet A)
      → x ≡ refusal OUT no_file (length (bytes_of_sheet A)) → WriteSays a space x
  written : (A : Sheet) → reading_of_sheet a ≡ value A → length (bytes_of_sheet A) ≤ space → x ≡ wrote (length (bytes_of_sheet A)) → WriteSays a space x

-- the vector of tick t has no bit beyond the inputs
unfoldable pub FitsInputs : Sheet → List ℕ → ℕ → Type 0
FitsInputs A vectors t = get_or vectors t 0 < 2 ^ inputs A.signals

pub data RunSays (a vectors : List ℕ) (space : ℕ) (x : Answer) : Type 0 where
  a_refused : (k : Refusal) (at : ℕ) → reading_of_sheet a ≡ refused k at → x ≡ refusal k file_A at → RunSays a vectors space x
  too_small : (A : Sheet) → reading_of_sheet a ≡ value A → space < length vectors → x ≡ refusal OUT no_file (length vectors) → RunSays a vectors space x
  bad_vector : (A : Sheet) → reading_of_sheet a ≡ value A → length vectors ≤ space
      → (t : ℕ) → LeastFailing (length vectors) (FitsInputs A vectors) t → x ≡ refusal VECTOR no_file t → RunSays a vectors space x
  ran : (A : Sheet) → reading_of_sheet a ≡ value A → length vectors ≤ space
      → ((t : ℕ) → t < length vectors → FitsInputs A vectors t) → x ≡ wrote (length vectors) → RunSays a vectors space x

-- ## Check and refine: A, B, UNLIKE, grouping

-- the files of a call that goes on: two sheets that are alike, and a grouping of their joint list
pub record Files (a b p : List ℕ) (A B : Sheet) (g : List ℕ) : Type 0 where
  pub read_a : reading_of_sheet a ≡ value A
  pub read_b : reading_of_sheet b ≡ value B
  pub like_inputs : inputs A.signals ≡ inputs B.signals
  pub like_outputs : length A.outputs ≡ length B.outputs
  pub read_p : reading_of_classes (total A B) p ≡ value g

pub data FilesSay (a b p : List ℕ) (next : Sheet → Sheet → List ℕ → Answer → Type 0) (x : Answer) : Type 0 where
  a_refused : (k : Refusal) (at : ℕ) → reading_of_sheet a ≡ refused k at → x ≡ refusal k file_A at → FilesSay a b p next x
  b_refused : (A : Sheet) (k : Refusal) (at : ℕ) → reading_of_sheet a ≡ value A → reading_of_sheet b ≡ refused k at → x ≡ refusal k file_B at → FilesSay a b p next x
  unlike_inputs : (A B : Sheet) → reading_of_sheet a ≡ value A → reading_of_sheet b ≡ value B → (inputs A.signals ≡ inputs B.signals → ⊥)
      → x ≡ refusal UNLIKE no_file 0 → FilesSay a b p next x
  unlike_outputs : (A B : Sheet) → reading_of_sheet a ≡ value A → reading_of_sheet b ≡ value B → inputs A.signals ≡ inputs B.signals
      → (length A.outputs ≡ length B.outputs → ⊥) → x ≡ refusal UNLIKE no_file 1 → FilesSay a b p next x
  p_refused : (A B : Sheet) → reading_of_sheet a ≡ value A → reading_of_sheet b ≡ value B → inputs A.signals ≡ inputs B.signals
      → length A.outputs ≡ length B.outputs → (k : Refusal) (at : ℕ) → reading_of_classes (total A B) p ≡ refused k at
      → x ≡ refusal k file_grouping at → FilesSay a b p next x
  onward : (A B : Sheet) (g : List ℕ) → Files a b p A B g → next A B g x → FilesSay a b p next x

-- ## Check, with room for N nodes: start room, START, step room, STEP, outputs

module _ (N : ℕ) (A B : Sheet) (g : List ℕ) where
  -- there was room for the start list and Start holds; for the step list too, and Step holds
  pub record StartHolds : Type 0 where
    pub room : start_count A B ≤ N
    pub start : Start A B g

  pub record StepHolds : Type 0 where
    pub before : StartHolds
    pub room : step_count A B g ≤ N
    pub step : Step A B g

-- the nodes when both lists have been worked
abbrev pub both_lists : Sheet → Sheet → List ℕ → ℕ
both_lists A B g = max (start_count A B) (step_count A B g)

pub data CheckSays (N : ℕ) (A B : Sheet) (g : List ℕ) (x : Answer) : Type 0 where
  no_start-room : N < start_count A B → x ≡ refusal NO_ROOM no_file 0 → CheckSays N A B g x
  no_start : start_count A B ≤ N → (i : ℕ) → LeastFailing (total A B) (λ v. StartEqual A B (first g v) v) i
      → x ≡ undecided START i 0 (start_count A B) → CheckSays N A B g x
  no_step-room : StartHolds N A B g → N < step_count A B g → x ≡ refusal NO_ROOM no_file 1 → CheckSays N A B g x
  no_step : StartHolds N A B g → step_count A B g ≤ N → (i : ℕ) → LeastFailing (total A B) (λ v. StepEqual A B g (first g v) v) i
      → x ≡ undecided STEP i 0 (both_lists A B g) → CheckSays N A B g x
  unpaired : StepHolds N A B g → (i : ℕ) → LeastFailing (length A.outputs) (PairedAt A B g) i
      → x ≡ undecided OUTPUTS i 0 (both_lists A B g) → CheckSays N A B g x
  all_hold : StepHolds N A B g → PairedOutputs A B g → x ≡ equivalent 0 (both_lists A B g) → CheckSays N A B g x

-- ## Refine, with a result of so much space: OUT, start room, step room of T_0 to T_r, outputs

module _ (A B : Sheet) (p : List ℕ) where
  -- r is the least i with T_i = T_(i+1)
  pub record Rounds (r : ℕ) : Type 0 where
    pub settled : T A B p r ≡ T A B p (suc r)
    pub least : (i : ℕ) → i < r → T A B p i ≡ T A B p (suc i) → ⊥

  -- there is room for the start list and for the step lists of T_0 to T_r, and nodes is the greatest count
  pub record Worked (N r nodes : ℕ) : Type 0 where
    pub rounds : Rounds r
    pub start-room : start_count A B ≤ N
    pub step_room : (i : ℕ) → i ≤ r → step_count A B (T A B p i) ≤ N
    pub greatest : Greatest (start_count A B) (λ i. step_count A B (T A B p i)) r nodes

pub data RefineSays (N space : ℕ) (A B : Sheet) (p : List ℕ) (x : Answer) : Type 0 where
  too_small : space < 2 * total A B + 1 → x ≡ refusal OUT no_file (2 * total A B + 1) → RefineSays N space A B p x
  no_start-room : 2 * total A B + 1 ≤ space → N < start_count A B → x ≡ refusal NO_ROOM no_file 0 → RefineSays N space A B p x
  no_step-room : 2 * total A B + 1 ≤ space → start_count A B ≤ N → (r : ℕ) → Rounds A B p r
      → (i : ℕ) → LeastFailing (suc r) (λ i. step_count A B (T A B p i) ≤ N) i → x ≡ refusal NO_ROOM no_file (suc i) → RefineSays N space A B p x
  unpaired : 2 * total A B + 1 ≤ space → (r nodes : ℕ) → Worked A B p N r nodes
      → (i : ℕ) → LeastFailing (length A.outputs) (PairedAt A B (T A B p r)) i → x ≡ undecided OUTPUTS i r nodes → RefineSays N space A B p x
  all_hold : 2 * total A B + 1 ≤ space → (r nodes : ℕ) → Worked A B p N r nodes → PairedOutputs A B (T A B p r)
      → x ≡ equivalent r nodes → RefineSays N space A B p x

-- ## Demand 3

-- two files are sheets with as many inputs that give equal outputs at every tick for every input sequence
pub record SameBoards (a b : List ℕ) : Type 0 where
  pub A : Sheet
  pub B : Sheet
  pub read_a : reading_of_sheet a ≡ value A
  pub read_b : reading_of_sheet b ≡ value B
  pub like_inputs : inputs A.signals ≡ inputs B.signals
  pub same : SameOutputs A B

-- some proposal is accepted
pub data ProposalAccepted (a b : List ℕ) : Type 0 where
  by_check : (p : List ℕ) (words r nodes : ℕ) → (check_answer a b p words).answer ≡ equivalent r nodes → ProposalAccepted a b
  by_refine : (p : List ℕ) (words space r nodes : ℕ) → (refine_answer a b p words space).answer ≡ equivalent r nodes → ProposalAccepted a b

-- the proposal of one class
unfoldable pub one_class : ℕ → List ℕ
one_class n = bytes_of_classes (replicate n 0)

-- EQUIVALENT, or not enough room in the result or in the table, and nothing else
pub data AcceptsInRoom (x : Answer) : Type 0 where
  accepts : (r nodes : ℕ) → x ≡ equivalent r nodes → AcceptsInRoom x
  no_space : (at : ℕ) → x ≡ refusal OUT no_file at → AcceptsInRoom x
  no_nodes : (at : ℕ) → x ≡ refusal NO_ROOM no_file at → AcceptsInRoom x
