-- Laws of what refine says of two sheets and a proposal. Assumes nothing.
use Rattle.std.specs.Prelude.{Result, Ok, Err}
use mathlib.Core.Path.{◌≡◌, refl, sym, ap, ◌∙◌, subst}
use mathlib.Core.Bool.{true≢false}
use mathlib.Core.List.{List}
use Prim.Native.Nat.{ℕ, suc, ◌+◌, ◌*◌, ◌≤◌, ◌<◌}
use native.Mathlib.Omega.{arith}
use native.Mathlib.Numerals.{add-one}
use lib.ListN.{length}
use lib.Dec.{ltb}
use Rattle.meaning.specs.Numbers.{NO_ROOM, no_file, OUTPUTS}
use Rattle.meaning.specs.Sheet.{Sheet, bytes_of_classes}
use Rattle.meaning.specs.Joint.{total, output_fault, T, rounds}
use Rattle.meaning.specs.Room.{start_count, step_count}
use Rattle.meaning.specs.Answer as paper
use Rattle.laws.proofs.Basic.{case_bool}
use Rattle.promises.specs.Calls.{LeastFailing, Worked}
use Rattle.promises.proofs.Equations.{length-T}
use Rattle.promises.proofs.Refines.{out_at-start, out_at-step, settled-after}
use Rattle.answer.specs.declared.Done.{Done}
use Rattle.answer.specs.declared.Done.TheVariants.{Equivalent, Undecided, Wrote}
use Rattle.answer.specs.declared.Refused.{Refused}
use Rattle.answer.specs.Meant.{refusal_of, file_of, done_of, answer_of}
use Rattle.diagram.specs.Words.{room_of}
use Rattle.diagram.specs.declared.Full.{Full}
use Rattle.diagram.specs.declared.Head.{Head}
use Rattle.groups.specs.ByIds.{split_by}
use Rattle.groups.proofs.Telling.{start-split, T_below}
use Rattle.work.specs.declared.Pair.{Pair}
use Rattle.work.specs.Lists.{left, right, joint, ListSays, StartSays}
use Rattle.work.specs.Stages.{FrontDone, FrontSays}
use Rattle.correspond.specs.Verdicts.{Grouped, Lent, Counted, out_of_room, SettledFrom, SettleSays, written_by, Writes, Below, RefineSays}
use Rattle.correspond.proofs.Verdicts.{fits_lent, exceeds_lent, lent_after, front_lent, front_counted, all_tell}

-- ## A verdict on the outputs is no refusal and no length

module _ (A B : Sheet) (g : List ℕ) (r nodes : ℕ) where
  verdict : (x : paper.Answer) → x ≡ paper.outputs_verdict A B g r nodes → (P : paper.Answer → Type 0)
      → ((i : ℕ) → P (paper.undecided OUTPUTS i r nodes)) → P (paper.equivalent r nodes) → P x
  unfolding paper.outputs_verdict
  verdict x e P u q = case_bool (ltb (output_fault A B g) (length A.outputs))
      (λ t. subst P (sym (rw t at e)) (u (output_fault A B g)))
      (λ t. subst P (sym (rw t at e)) q)

  -- so its grouping is written
  verdict_writes : (z : Result Done Refused) → answer_of z ≡ paper.outputs_verdict A B g r nodes → Writes z
  unfolding answer_of done_of Writes
  verdict_writes (Ok (Equivalent r' n')) e = tt
  verdict_writes (Ok (Undecided w i r' n')) e = tt
  verdict_writes (Ok (Wrote k)) e = verdict (paper.wrote k) e (λ x. x ≡ paper.wrote k → ⊥)
      (λ i q. let z : ◌≡◌ {A = ℕ} 0 1 = cc in absurd (omega arith)) (λ q. let z : ◌≡◌ {A = ℕ} 0 1 = cc in absurd (omega arith)) refl
  verdict_writes (Err f) e = verdict (paper.refusal (refusal_of f.refusal) (file_of f.file) f.at) e
      (λ x. x ≡ paper.refusal (refusal_of f.refusal) (file_of f.file) f.at → ⊥)
      (λ i q. let z : ◌≡◌ {A = ℕ} 0 1 = cc in absurd (omega arith)) (λ q. let z : ◌≡◌ {A = ℕ} 0 1 = cc in absurd (omega arith)) refl

written_bytes : (z : Result Done Refused) (g : List ℕ) → Writes z → written_by z g ≡ bytes_of_classes g
unfolding Writes written_by
written_bytes (Ok (Equivalent r n)) g v = refl
written_bytes (Ok (Undecided w i r n)) g v = refl
written_bytes (Ok (Wrote k)) g v = absurd v
written_bytes (Err f) g v = absurd v

-- what is said of a table's words is said of the array that they were lent from
pub refine_lent : {p : Pair} {proposal w u u' g : List ℕ} {z : Result Done Refused} → u' ≡ u → RefineSays p proposal w u g z → RefineSays p proposal w u' g z
refine_lent d c = rw d c

answer_in : paper.Outcome → paper.Answer
answer_in o = o.answer

written_in : paper.Outcome → List ℕ
written_in o = o.written

module _ {p : Pair} {proposal : List ℕ} (ok : Grouped p proposal) (w : List ℕ) where
  pos : 0 < total (left p) (right p)
  unfolding joint
  pos = ok.some

  -- ## No room at the start

  pub refine_no_start : {x : List ℕ} → x ≡ w → (a : Head) (u : List ℕ) (b : Head) (ids : List ℕ) (full : Full) → StartSays p x a u b ids (Err full) → {g : List ℕ} → length g ≡ joint p
      → RefineSays p proposal w u g (Err (out_of_room 0))
  unfolding StartSays ListSays answer_of refusal_of file_of written_by Writes joint answer_in written_in paper.refuse paper.silent
  refine_no_start e a u b ids full says long =
      let x = rw e at says in
      let is : (space : ℕ) → 2 * total (left p) (right p) + 1 ≤ space → paper.refine_verdict (room_of w) space (left p) (right p) proposal ≡ paper.refuse NO_ROOM no_file 0 =
      λ space l. out_at-start (left p) (right p) proposal pos (room_of w) space l x.over in
      record {
        answer = λ space l. sym (ap answer_in (is space l));
        written = λ space l. sym (ap written_in (is space l));
        verdict = λ t. absurd (true≢false (sym t));
        below = λ v. absurd v;
        size = long;
        lent = exceeds_lent x;
      }

  -- ## The start list has room, and is counted; the proposal is split by it

  pub record Begun (u g : List ℕ) (b : Head) : Type 0 where
    pub fits : start_count (left p) (right p) ≤ room_of w
    pub most : b.most ≡ start_count (left p) (right p)
    pub grouping : g ≡ T (left p) (right p) proposal 0
    pub lent : Lent w u

  pub begun : {x : List ℕ} → x ≡ w → (a : Head) (u : List ℕ) (b : Head) (ids : List ℕ) (done : Unit {0}) → StartSays p x a u b ids (Ok done) → a.most ≡ 0
      → {g : List ℕ} → g ≡ split_by proposal ids → Begun u g b
  unfolding StartSays ListSays joint
  begun e a u b ids done says none is =
      let f = rw e at says in
      record {
        fits = f.fits;
        most = f.most ∙ (rw none (omega arith));
        grouping = is ∙ start-split (left p) (right p) proposal ids ok.size (all_tell ok ids _ f.tells);
        lent = fits_lent f;
      }

  begun_long : {u g : List ℕ} {b : Head} → Begun u g b → length g ≡ joint p
  unfolding joint
  begun_long x = ap length x.grouping ∙ length-T (left p) (right p) proposal 0

  -- ## The first step list without room is that of T_r

  no_room : {u : List ℕ} → start_count (left p) (right p) ≤ room_of w → (r : ℕ)
      → LeastFailing (suc (rounds (left p) (right p) proposal)) (λ i. step_count (left p) (right p) (T (left p) (right p) proposal i) ≤ room_of w) r
      → {g : List ℕ} → length g ≡ joint p → Lent w u → RefineSays p proposal w u g (Err (out_of_room (r + 1)))
  unfolding answer_of refusal_of file_of written_by Writes joint answer_in written_in paper.refuse paper.silent
  no_room fits r over long lent =
      let is : (space : ℕ) → 2 * total (left p) (right p) + 1 ≤ space → paper.refine_verdict (room_of w) space (left p) (right p) proposal ≡ paper.refuse NO_ROOM no_file (suc r) =
      λ space l. out_at-step (left p) (right p) proposal pos (room_of w) space r l fits over in
      record {
        answer = λ space l. rw (add-one r) (sym (ap answer_in (is space l)));
        written = λ space l. sym (ap written_in (is space l));
        verdict = λ t. absurd (true≢false (sym t));
        below = λ v. absurd v;
        size = long;
        lent = lent;
      }

  -- ## The front of the step lists

  -- where there is no room for it, there is none for the step list of T_0
  pub refine_no_front : {u g : List ℕ} {b : Head} → Begun u g b → (u' : List ℕ) (b' : Head) (h h' : List ℕ) (full : Full) → FrontSays p u b u' b' h h' (Err full)
      → RefineSays p proposal w u' g (Err (out_of_room 1))
  unfolding FrontSays
  refine_no_front {g = g} x u' b' h h' full says =
      let over = says g (begun_long x) in
      let first = ap (step_count (left p) (right p)) x.grouping in
      no_room x.fits 0 (record {
        below = omega arith;
        fails = λ l. omega (arith, l, over.over, x.lent.room, first);
        before = λ i l. absurd (omega arith);
      }) (begun_long x) (lent_after x.lent (exceeds_lent over))

  pub record Fronted (u g : List ℕ) (b : Head) : Type 0 where
    pub fits : start_count (left p) (right p) ≤ room_of w
    pub counted : Counted p b g
    pub grouping : g ≡ T (left p) (right p) proposal 0
    pub grouped : Grouped p g
    pub lent : Lent w u

  pub fronted : {u g : List ℕ} {b : Head} → Begun u g b → {u' h h' : List ℕ} {b' : Head} → FrontDone p u b u' b' h h' → Fronted u' g b'
  fronted {g = g} x f = record {
    fits = x.fits;
    counted = front_counted f x.most g (begun_long x);
    grouping = x.grouping;
    grouped = record { alike = ok.alike; some = ok.some; outputs = ok.outputs; size = begun_long x };
    lent = lent_after x.lent (front_lent f);
  }

  -- ## The rounds

  module _ {u g : List ℕ} {b : Head} (x : Fronted u g b) {u' g' : List ℕ} {b' : Head} {z : Result ℕ Refused} (says : SettleSays p g u b u' b' g' z) where
    ended : SettledFrom (room_of u) p proposal g' b'.most z
    ended = says.from proposal x.grouping (omega (arith, x.fits, x.lent.room)) x.counted

    settled_grouped : Grouped p g'
    settled_grouped = record { alike = ok.alike; some = ok.some; outputs = ok.outputs; size = says.size ∙ x.grouped.size }

    pub refine_over : {e : Refused} → z ≡ Err e → RefineSays p proposal w u' g' (Err e)
    unfolding SettledFrom
    refine_over q =
        let over = rw q at ended in
        rw over.1 (no_room x.fits over.0 (rw x.lent.room at over.2) settled_grouped.size (lent_after x.lent says.lent))

    pub refine-after : {r : ℕ} → z ≡ Ok r → {y : Result Done Refused}
        → answer_of y ≡ paper.outputs_verdict (left p) (right p) g' r b'.most → RefineSays p proposal w u' g' y
    unfolding SettledFrom joint answer_in written_in Below
    refine-after {r} e {y} is =
        let done = rw e at ended in
        let work : Worked (left p) (right p) proposal (room_of w) r b'.most = rw x.lent.room at done.0 in
        let g-is : g' ≡ T (left p) (right p) proposal r = done.1 in
        let all : (space : ℕ) → 2 * total (left p) (right p) + 1 ≤ space → paper.refine_verdict (room_of w) space (left p) (right p) proposal
        ≡ record { answer = paper.outputs_verdict (left p) (right p) (T (left p) (right p) proposal r) r b'.most; written = bytes_of_classes (T (left p) (right p) proposal r) } =
        λ space l. settled-after (left p) (right p) proposal pos (room_of w) space r b'.most l work in
        let writes : Writes y = verdict_writes (left p) (right p) g' r b'.most y is in
        record {
          answer = λ space l. is ∙ rw g-is (sym (ap answer_in (all space l)));
          written = λ space l. written_bytes y g' writes ∙ rw g-is (sym (ap written_in (all space l)));
          verdict = λ t. writes;
          below = λ v i l. rw g-is (T_below (left p) (right p) proposal r i (omega (arith, l, settled_grouped.size)));
          size = settled_grouped.size;
          lent = lent_after x.lent says.lent;
        }
