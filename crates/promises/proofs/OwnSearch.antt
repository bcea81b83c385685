-- Demand 3: what EQUIVALENT means, and that the search from one class finds whatever any proposal would. Assumes nothing.
use mathlib.Core.Path.{◌≡◌, refl, sym, ◌∙◌, subst, subst₂}
use mathlib.Core.List.{List}
use Prim.Native.Nat.{ℕ, zero, suc, ◌<◌}
use native.Mathlib.Omega.{arith}
use lib.ListN.{length, get_or, replicate, length-replicate}
use Rattle.meaning.specs.Numbers.{Refusal, File, Reason}
use Rattle.meaning.specs.Sheet.{Sheet, Read, value, inputs, reading_of_sheet}
use Rattle.meaning.specs.Joint.{class, total, outA, outB, T, rounds}
use Rattle.meaning.specs.Room.{capacity}
use Rattle.meaning.specs.Answer.{Answer, equivalent, undecided, refusal, refine_answer}
use Rattle.promises.specs.Correspondence.{Correspondence, PairedAt, PairedOutputs, Inside}
use Rattle.promises.specs.Proper.{OutputsName}
use Rattle.promises.specs.Calls.{Files, FilesSay, a_refused, b_refused, unlike_inputs, unlike_outputs, p_refused, onward, CheckSays, RefineSays, too_small, no_start-room, no_start, no_step-room, no_step, unpaired, all_hold, SameBoards, ProposalAccepted, by_check, by_refine, one_class, AcceptsInRoom, accepts, no_space, no_nodes}
use Rattle.promises.proofs.Sound.{same_outputs}
use Rattle.promises.proofs.Coarsest.{T-coarsest}
use Rattle.promises.proofs.Refines.{rounds_only, refine_says}
use Rattle.promises.proofs.ReadProper.{outputs_name}
use Rattle.promises.proofs.Written.{classes-written}
use Rattle.promises.proofs.Calls.{some_joint, check_exactly, refine_exactly}

-- two sheets that are read and alike, with a signal correspondence that pairs their outputs
record Evidence (a b : List ℕ) : Type 0 where
  A : Sheet
  B : Sheet
  g : List ℕ
  read_a : reading_of_sheet a ≡ value A
  read_b : reading_of_sheet b ≡ value B
  like_inputs : inputs A.signals ≡ inputs B.signals
  like_outputs : length A.outputs ≡ length B.outputs
  corresponds : Correspondence A B g
  pairs : PairedOutputs A B g

-- ## An answer is never another

not-refusal : {X : Type 0} (r nodes : ℕ) (k : Refusal) (f : File) (at : ℕ) → equivalent r nodes ≡ refusal k f at → X
not-refusal r nodes k f at e = let z : ◌≡◌ {A = ℕ} 0 1 = cc in absurd (omega arith)

not-undecided : {X : Type 0} (r nodes : ℕ) (w : Reason) (i r' n' : ℕ) → equivalent r nodes ≡ undecided w i r' n' → X
not-undecided r nodes w i r' n' e = let z : ◌≡◌ {A = ℕ} 0 1 = cc in absurd (omega arith)

-- ## EQUIVALENT stands on evidence

evidence : (a b p : List ℕ) (A B : Sheet) (g c : List ℕ) → Files a b p A B g → Correspondence A B c → PairedOutputs A B c → Evidence a b
evidence a b p A B g c fs corresponds pairs = record {
  A = A;
  B = B;
  g = c;
  read_a = fs.read_a;
  read_b = fs.read_b;
  like_inputs = fs.like_inputs;
  like_outputs = fs.like_outputs;
  corresponds = corresponds;
  pairs = pairs;
}

module _ (a b p : List ℕ) (r nodes : ℕ) where
  from_files : (Says : Sheet → Sheet → List ℕ → Answer → Type 0)
      → ((A B : Sheet) (g : List ℕ) → Files a b p A B g → Says A B g (equivalent r nodes) → Evidence a b)
      → FilesSay a b p Says (equivalent r nodes) → Evidence a b
  from_files Says h (a_refused k at pa e) = not-refusal r nodes _ _ _ e
  from_files Says h (b_refused A k at pa pb e) = not-refusal r nodes _ _ _ e
  from_files Says h (unlike_inputs A B pa pb n e) = not-refusal r nodes _ _ _ e
  from_files Says h (unlike_outputs A B pa pb i n e) = not-refusal r nodes _ _ _ e
  from_files Says h (p_refused A B pa pb i o k at pp e) = not-refusal r nodes _ _ _ e
  from_files Says h (onward A B g fs s) = h A B g fs s

  from_check : (N : ℕ) (A B : Sheet) (g : List ℕ) → Files a b p A B g → CheckSays N A B g (equivalent r nodes) → Evidence a b
  from_check N A B g fs (no_start-room l e) = not-refusal r nodes _ _ _ e
  from_check N A B g fs (no_start l i f e) = not-undecided r nodes _ _ _ _ e
  from_check N A B g fs (no_step-room s l e) = not-refusal r nodes _ _ _ e
  from_check N A B g fs (no_step s l i f e) = not-undecided r nodes _ _ _ _ e
  from_check N A B g fs (unpaired s i f e) = not-undecided r nodes _ _ _ _ e
  from_check N A B g fs (all_hold s pairs e) = evidence a b p A B g g fs (record { start = s.before.start; step = s.step }) pairs

  from_refine : (N space : ℕ) (A B : Sheet) (g : List ℕ) → Files a b p A B g → RefineSays N space A B g (equivalent r nodes) → Evidence a b
  from_refine N space A B g fs (too_small l e) = not-refusal r nodes _ _ _ e
  from_refine N space A B g fs (no_start-room s l e) = not-refusal r nodes _ _ _ e
  from_refine N space A B g fs (no_step-room s l r' rs i f e) = not-refusal r nodes _ _ _ e
  from_refine N space A B g fs (unpaired s r' n' w i f e) = not-undecided r nodes _ _ _ _ e
  from_refine N space A B g fs (all_hold s r' n' w pairs e) =
      let pos = some_joint a A B fs.read_a in
      let pairs' = subst (λ (r : ℕ). PairedOutputs A B (T A B g r)) (sym (rounds_only A B g pos r' w.rounds)) pairs in
      evidence a b p A B g (T A B g (rounds A B g)) fs (T-coarsest A B g pos).corresponds pairs'

accepted_evidence : (a b : List ℕ) → ProposalAccepted a b → Evidence a b
accepted_evidence a b (by_check p words r nodes e) =
    from_files a b p r nodes (CheckSays (capacity words)) (from_check a b p r nodes (capacity words)) ((check_exactly a b p words (equivalent r nodes)).0 e)
accepted_evidence a b (by_refine p words space r nodes e) =
    from_files a b p r nodes (RefineSays (capacity words) space) (from_refine a b p r nodes (capacity words) space)
    ((refine_exactly a b p words space (equivalent r nodes)).0 e)

-- ## EQUIVALENT means equal outputs at every tick

pub accepted_sound : (a b : List ℕ) → ProposalAccepted a b → SameBoards a b
accepted_sound a b acc =
    let v = accepted_evidence a b acc in record {
      A = v.A;
      B = v.B;
      read_a = v.read_a;
      read_b = v.read_b;
      like_inputs = v.like_inputs;
      same = same_outputs v.A v.B v.g v.corresponds v.pairs v.like_outputs
          (outputs_name a v.A v.read_a) (outputs_name b v.B v.read_b);
    }

-- ## The search from one class

-- a list of zeros has zeros at all places
zero-at : (n v : ℕ) → ◌≡◌ {A = ℕ} (get_or (replicate n 0) v 0) 0
zero-at zero v = refl
zero-at (suc n) zero = refl
zero-at (suc n) (suc v) = zero-at n v

inside_one : (A B : Sheet) (n : ℕ) (g : List ℕ) → Inside A B g (replicate n 0)
unfolding Inside class
inside_one A B n g u v t = zero-at n u ∙ sym (zero-at n v)

module _ (a b : List ℕ) (v : Evidence a b) where
  one : List ℕ
  one = replicate (total v.A v.B) 0

  -- what pairs the outputs pairs them in the coarsest grouping too
  own_pairs : (i : ℕ) → i < length v.A.outputs → PairedAt v.A v.B (T v.A v.B one (rounds v.A v.B one)) i
  unfolding one PairedOutputs Inside OutputsName outA outB total
  own_pairs i l =
      let p = v.pairs i l in
      let pos = some_joint a v.A v.B v.read_a in
      let inside = (T-coarsest v.A v.B one pos).coarsest v.g (inside_one v.A v.B (total v.A v.B) v.g) v.corresponds in
      let lu : outA v.A v.B i < total v.A v.B = omega (arith, outputs_name a v.A v.read_a i l) in
      let lv : outB v.A v.B i < total v.A v.B = omega (arith, outputs_name b v.B v.read_b i (omega (arith, v.like_outputs))) in
      record { classes = inside _ _ (record { left = lu; right = lv; classes = p.classes }); polarities = p.polarities }

  own_files : Files a b (one_class (total v.A v.B)) v.A v.B one
  unfolding one_class one
  own_files = record {
    read_a = v.read_a;
    read_b = v.read_b;
    like_inputs = v.like_inputs;
    like_outputs = v.like_outputs;
    read_p = classes-written _ one (length-replicate _ _);
  }

  own_answer : (N space : ℕ) (answer x : Answer) → answer ≡ x → RefineSays N space v.A v.B one x → AcceptsInRoom answer
  own_answer N space answer x q (too_small l e) = no_space _ (q ∙ e)
  own_answer N space answer x q (no_start-room s l e) = no_nodes _ (q ∙ e)
  own_answer N space answer x q (no_step-room s l r rs i f e) = no_nodes _ (q ∙ e)
  own_answer N space answer x q (unpaired s r nodes w i f e) =
      let pos = some_joint a v.A v.B v.read_a in
      absurd (f.fails (subst (λ (r : ℕ). PairedAt v.A v.B (T v.A v.B one r) i) (rounds_only v.A v.B one pos r w.rounds) (own_pairs i f.below)))
  own_answer N space answer x q (all_hold s r nodes w pairs e) = accepts r nodes (q ∙ e)

  own_accepts : (words space : ℕ) → AcceptsInRoom (refine_answer a b (one_class (total v.A v.B)) words space).answer
  own_accepts words space =
      let pos = some_joint a v.A v.B v.read_a in
      let says = refine_says v.A v.B one pos (capacity words) space in
      own_answer (capacity words) space _ _ ((refine_exactly a b (one_class (total v.A v.B)) words space _).1 (onward v.A v.B one own_files says)) says

same_value : (s t : Sheet) → ◌≡◌ {A = Read Sheet} (value s) (value t) → s ≡ t
same_value s t e = cc

-- if any proposal is accepted, the search from one class accepts, where it has room
pub own_search : (a b : List ℕ) → ProposalAccepted a b → (A B : Sheet) → reading_of_sheet a ≡ value A → reading_of_sheet b ≡ value B
    → (words space : ℕ) → AcceptsInRoom (refine_answer a b (one_class (total A B)) words space).answer
own_search a b acc A B read_a read_b words space =
    let v = accepted_evidence a b acc in
    let same_A : v.A ≡ A = same_value _ _ (sym v.read_a ∙ read_a) in
    let same-B : v.B ≡ B = same_value _ _ (sym v.read_b ∙ read_b) in
    subst₂ (λ (A B : Sheet). AcceptsInRoom (refine_answer a b (one_class (total A B)) words space).answer) same_A same-B (own_accepts a b v words space)
