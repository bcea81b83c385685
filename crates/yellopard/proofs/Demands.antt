-- What the yard may rely on, of the calls themselves: demands 1 to 3 of whatever a call answers and leaves in lent memory. Each is a
-- line from the theorem about the paper's answers in `promises`; the words are those of that crate's specs/. Assumes nothing.
use Rattle.std.specs.Prelude.{Result, Ok, Err}
use mathlib.Core.Path.{◌≡◌, sym, ap, subst, ◌∙◌}
use mathlib.Core.Bool.{true}
use mathlib.Core.List.{List, ◌++◌}
use mathlib.Core.Logic.{◌↔◌}
use Prim.Native.Nat.{ℕ, ◌+◌, ◌*◌}
use lib.ListN.{length, take, drop, replicate}
use Rattle.meaning.specs.Numbers.{node_words}
use Rattle.meaning.specs.Sheet.{Sheet, value, reading_of_sheet, bytes_of_classes}
use Rattle.meaning.specs.Joint.{total, T, rounds}
use Rattle.meaning.specs.Room.{capacity}
use Rattle.meaning.specs.Answer as paper
use Rattle.meaning.specs.Answer.{Outcome, result_after, write_answer}
use Rattle.promises.specs.Correspondence.{CoarsestInside}
use Rattle.promises.specs.Calls.{WriteSays, RunSays, Files, FilesSay, CheckSays, RefineSays, SameBoards, ProposalAccepted, by_check, by_refine, one_class, AcceptsInRoom}
use Rattle.promises.proofs.Promises as promises
use Rattle.answer.specs.declared.Done.{Done}
use Rattle.answer.specs.declared.Done.TheVariants.{Equivalent}
use Rattle.answer.specs.declared.Refused.{Refused}
use Rattle.answer.specs.Meant.{done_of, answer_of}
use Rattle.answer.proofs.Same.{answer_same}
use Rattle.sheet.specs.Writing.{Called}
use Rattle.sheet.proofs.Called.{called_same}
use Rattle.tick.specs.Tick.{Ran}
use Rattle.tick.proofs.Unique.{answer_unique, result_unique}
use Rattle.yellopard.specs.Calls.{is_verdict, Checked, Refined, Told}
use Rattle.yellopard.proofs.Results.{verdict_writes, runs_alike}

-- ## Demand 1: a refusal writes nothing, and the lent table comes back zeroed

-- the result buffer keeps its old contents
module _ {old new : List ℕ} {e : Refused} where
  pub write-refused : (a : List ℕ) → Called (write_answer a (length old)) old new (Err e) → new ≡ old
  unfolding answer_of
  write-refused a c = c.result ∙ promises.refused_result _ old (promises.write-refused a (length old)) _ _ _ (sym c.answer)

  pub run-refused : {a vectors : List ℕ} → Ran a vectors old (Err e) new → new ≡ old
  unfolding answer_of
  run-refused {a} {vectors} c = c.result ∙ promises.refused_result _ old (promises.run-refused a vectors (length old)) _ _ _ (sym c.answer)

  pub refine-refused : {a b p table after : List ℕ} → Refined a b p table after old new (Err e) → new ≡ old
  unfolding answer_of
  refine-refused {a} {b} {p} {table} c =
      c.result ∙ promises.refused_result _ old (promises.refine-refused a b p (length table) (length old)) _ _ _ (sym c.answer)

-- whatever is answered, the first 10N words of the table are zero and the rest is unchanged
module _ {a b p table after : List ℕ} {r : Result Done Refused} where
  pub check_zeroed : Checked a b p table after r → take (node_words * capacity (length table)) after ≡ replicate (node_words * capacity (length table)) 0
  check_zeroed c = rw c.zeroed (promises.table_zeroed table)

  pub check_rest : Checked a b p table after r → drop (node_words * capacity (length table)) after ≡ drop (node_words * capacity (length table)) table
  check_rest c = rw c.zeroed (promises.table_rest table)

  module _ {old new : List ℕ} where
    pub refine_zeroed : Refined a b p table after old new r
        → take (node_words * capacity (length table)) after ≡ replicate (node_words * capacity (length table)) 0
    refine_zeroed c = rw c.zeroed (promises.table_zeroed table)

    pub refine_rest : Refined a b p table after old new r
        → drop (node_words * capacity (length table)) after ≡ drop (node_words * capacity (length table)) table
    refine_rest c = rw c.zeroed (promises.table_rest table)

-- ## Demand 2: each answer is the one that the paper's rules give, and no other

-- an answer that means what the rules say is a case exactly when the rules say what that case means
says_exactly : (Says : paper.Answer → Type 0) {x : paper.Answer} → ((y : paper.Answer) → (x ≡ y) ↔ Says y)
    → (r : Result Done Refused) → answer_of r ≡ x → (z : Result Done Refused) → (r ≡ z) ↔ Says (answer_of z)
says_exactly Says iff r e z = (
  (λ q. subst (λ (s : Result Done Refused). Says (answer_of s)) q ((iff (answer_of r)).0 (sym e))),
  λ s. answer_same r z (e ∙ (iff (answer_of z)).1 s),
)

module _ {r : Result Done Refused} where
  pub write_exactly : (a : List ℕ) {old new : List ℕ} → Called (write_answer a (length old)) old new r
      → (z : Result Done Refused) → (r ≡ z) ↔ WriteSays a (length old) (answer_of z)
  write_exactly a {old} c = says_exactly (WriteSays a (length old)) (promises.write_exactly a (length old)) r c.answer

  pub run_exactly : {a vectors old new : List ℕ} → Ran a vectors old r new → (z : Result Done Refused) → (r ≡ z) ↔ RunSays a vectors (length old) (answer_of z)
  run_exactly {a} {vectors} {old} c = says_exactly (RunSays a vectors (length old)) (promises.run_exactly a vectors (length old)) r c.answer

  pub check_exactly : {a b p table after : List ℕ} → Checked a b p table after r
      → (z : Result Done Refused) → (r ≡ z) ↔ FilesSay a b p (CheckSays (capacity (length table))) (answer_of z)
  check_exactly {a} {b} {p} {table} c =
      says_exactly (FilesSay a b p (CheckSays (capacity (length table)))) (promises.checks_exactly a b p (length table)) r c.answer

  pub refine_exactly : {a b p table after old new : List ℕ} → Refined a b p table after old new r
      → (z : Result Done Refused) → (r ≡ z) ↔ FilesSay a b p (RefineSays (capacity (length table)) (length old)) (answer_of z)
  refine_exactly {a} {b} {p} {table} {after} {old} c =
      says_exactly (FilesSay a b p (RefineSays (capacity (length table)) (length old))) (promises.refines_exactly a b p (length table) (length old)) r c.answer

-- a verdict of refine writes T_r, the coarsest grouping inside the proposal with Start and Step, in its 2n + 1 bytes
pub refine_writes : {a b p : List ℕ} {A B : Sheet} {g : List ℕ} → Files a b p A B g → {table after old new : List ℕ} {r : Result Done Refused}
    → Refined a b p table after old new r → is_verdict r ≡ true
    → (new ≡ bytes_of_classes (T A B g (rounds A B g)) ++ drop (2 * total A B + 1) old) × CoarsestInside A B g (T A B g (rounds A B g))
refine_writes {a} {b} {p} {A} {B} {g} files c v = (verdict_writes files c v, promises.coarsest-grouping a b p A B g files)

-- uniqueness: two that meet the contract of a call for the same inputs are one answer, and leave the same in lent memory
module _ {r s : Result Done Refused} where
  pub write-one : (a : List ℕ) {old new other : List ℕ} → Called (write_answer a (length old)) old new r → Called (write_answer a (length old)) old other s
      → (new ≡ other) × (r ≡ s)
  write-one a {old} = called_same (write_answer a (length old)) old

  pub run-one : {a vectors old new other : List ℕ} → Ran a vectors old r new → Ran a vectors old s other → (new ≡ other) × (r ≡ s)
  run-one c d = (result_unique _ _ _ _ _ _ _ c d, answer_unique _ _ _ _ _ _ _ c d)

  pub check-one : {a b p table after other : List ℕ} → Checked a b p table after r → Checked a b p table other s → (after ≡ other) × (r ≡ s)
  check-one c d = (c.zeroed ∙ sym d.zeroed, answer_same r s (c.answer ∙ sym d.answer))

  pub refine-one : {a b p table after after' old new new' : List ℕ} → Refined a b p table after old new r → Refined a b p table after' old new' s
      → (after ≡ after') × (new ≡ new') × (r ≡ s)
  refine-one c d = (c.zeroed ∙ sym d.zeroed, c.result ∙ sym d.result, answer_same r s (c.answer ∙ sym d.answer))

-- and so of the numbers of an answer, in a lent row
pub told_one : {x : paper.Answer} {row after other : List ℕ} {m n : ℕ} → Told x row after m → Told x row other n → (after ≡ other) × (m ≡ n)
told_one c d = (c.row ∙ sym d.row, c.count ∙ sym d.count)

-- ## Demand 3: what EQUIVALENT means

-- an EQUIVALENT is an accepted proposal, whoever proposed it and in either mode
pub check-accepts : {a b p table after : List ℕ} {r nodes : ℕ} → Checked a b p table after (Ok (Equivalent r nodes)) → ProposalAccepted a b
unfolding answer_of done_of
check-accepts {p = p} {table = table} c = by_check p (length table) _ _ (sym c.answer)

pub refine-accepts : {a b p table after old new : List ℕ} {r nodes : ℕ} → Refined a b p table after old new (Ok (Equivalent r nodes)) → ProposalAccepted a b
unfolding answer_of done_of
refine-accepts {p = p} {table = table} {old = old} c = by_refine p (length table) (length old) _ _ (sym c.answer)

-- it means equal outputs at every tick for every input sequence
pub check_means : {a b p table after : List ℕ} {r nodes : ℕ} → Checked a b p table after (Ok (Equivalent r nodes)) → SameBoards a b
check_means {a} {b} c = promises.equivalent_means a b (check-accepts c)

pub refine_means : {a b p table after old new : List ℕ} {r nodes : ℕ} → Refined a b p table after old new (Ok (Equivalent r nodes)) → SameBoards a b
refine_means {a} {b} c = promises.equivalent_means a b (refine-accepts c)

-- so that runs of the two boards with the same vectors answer the same and write the same
pub equal_runs : {a b : List ℕ} → SameBoards a b → {vectors old new other : List ℕ} {r s : Result Done Refused} → Ran a vectors old r new → Ran b vectors old s other
    → (new ≡ other) × (r ≡ s)
equal_runs q {vectors} {old} {r = r} {s = s} c d =
    let alike = runs_alike q vectors (length old) in (
      c.result ∙ ap (λ (o : Outcome). result_after o old) alike ∙ sym d.result,
      answer_same r s (c.answer ∙ ap (λ (o : Outcome). o.answer) alike ∙ sym d.answer),
    )

-- and that refining from one class says EQUIVALENT too, or refuses with OUT or NO ROOM
pub own_search_finds : {a b : List ℕ} → ProposalAccepted a b → {A B : Sheet} → reading_of_sheet a ≡ value A → reading_of_sheet b ≡ value B
    → {table after old new : List ℕ} {r : Result Done Refused} → Refined a b (one_class (total A B)) table after old new r → AcceptsInRoom (answer_of r)
own_search_finds {a} {b} q {A} {B} read_a read_b {table} {after} {old} c =
    subst AcceptsInRoom (sym c.answer) (promises.own_search_finds a b q A B read_a read_b (length table) (length old))
