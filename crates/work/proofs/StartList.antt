-- The start list: f and h in the initial state are its functions, and the ids of h tell Start. Assumes nothing.
use Rattle.std.specs.Prelude.{Result, Ok, Err, OnOk}
use mathlib.Core.Path.{◌≡◌, refl, ap, ◌∙◌}
use mathlib.Core.Bool.{Bool}
use mathlib.Core.List.{List}
use Prim.Native.Nat.{ℕ, ◌*◌}
use native.Mathlib.Omega.{arith}
use lib.ListN.{length, take, drop, replicate, length-replicate}
use lib.Seq.{drop_at}
use Rattle.meaning.specs.Numbers.{node_words}
use Rattle.meaning.specs.Sheet.{Sheet}
use Rattle.meaning.specs.Joint.{total, variables}
use Rattle.meaning.specs.Room.{start_list_of, start_count, cleared}
use Rattle.promises.specs.Correspondence.{StartEqual}
use Rattle.lists.specs.Lists as lists
use Rattle.lists.specs.Lists.{StartFun, f-start, h-start}
use Rattle.lists.proofs.Lists.{start_columns}
use Rattle.lists.proofs.Tests.{start-tree}
use Rattle.diagram.specs.declared.Full.{Full}
use Rattle.diagram.specs.declared.Head.{Head}
use Rattle.diagram.specs.Words.{room_of, rest_of}
use Rattle.diagram.specs.Contract.{Ready}
use Rattle.diagram.proofs.Empty.{cleared-room, cleared_good}
use Rattle.fill.specs.Work.{PartOf, Named}
use Rattle.fill.proofs.Parts.{part_left, part_right}
use Rattle.fill.proofs.Gains.{gains_ready}
use Rattle.fill.proofs.Named.{named-append, named-map}
use Rattle.work.specs.declared.Pair.{Pair}
use Rattle.work.specs.declared.pass.Moment.TheVariants.{Start}
use Rattle.work.specs.Lists.{left, right, joint, Alike, StartSays}
use Rattle.work.specs.Passes.{moment_of, f_tree, h_tree, Earlier}
use Rattle.work.specs.Stages.{f_trees, h_trees, both_trees, BothAsks, BothSays}
use Rattle.work.proofs.Front.{zeros, zeros_front}
use Rattle.work.proofs.Held.{map_part}
use Rattle.work.proofs.Joining.{joint_few}
use Rattle.work.proofs.Both.{both_list}
use Rattle.work.proofs.Closing.{Bare, list_says}

module _ (A B : Sheet) where
  start-named : Named (variables A B) (StartFun A B) (both_trees A B lists.start)
  unfolding both_trees
  start-named =
      named-append
      (named-map (f_tree A B lists.start) (lists.f_at A B lists.start) (total A B) f-start (λ v l. refl))
      (named-map (h_tree A B lists.start) (lists.h_at A B lists.start) (total A B) h-start (λ v l. refl))

  start_all : (x : List Bool → Bool) → StartFun A B x → PartOf (lists.tree A B x) (both_trees A B lists.start)
  unfolding both_trees
  start_all x (f-start v l) = part_left (h_trees A B lists.start) (map_part (f_tree A B lists.start) (total A B) v l)
  start_all x (h-start v l) = part_right (f_trees A B lists.start) (map_part (h_tree A B lists.start) (total A B) v l)

-- ## Worked from an emptied table

cleared_rest : (w : List ℕ) → rest_of (cleared w) ≡ rest_of w
unfolding rest_of cleared
cleared_rest w =
    ap (λ (n : ℕ). drop (node_words * n) (cleared w)) (cleared-room w)
    ∙ drop_at (replicate (node_words * room_of w) 0) (drop (node_words * room_of w) w) (node_words * room_of w) (length-replicate (node_words * room_of w) 0)

-- the words x of the emptied table
module _ (p : Pair) (w x : List ℕ) (a e : Head) (clean : x ≡ cleared w) (empty : e.used ≡ 0) (most : e.most ≡ a.most) where
  pub start_asks : (ids : List ℕ) → Alike p → length ids ≡ joint p → BothAsks p Start x e (length (take (length ids) zeros)) (length ids)
  unfolding Earlier
  start_asks ids alike size = record {
    f_asks = record { ready = record { good = rw (clean, empty) (cleared_good w); tallied = omega arith }; alike = alike; sized = zeros_front (length ids) (omega (arith, joint_few p alike)) ∙ size; earlier = tt };
    h_sized = size;
  }

  module _ (u : List ℕ) (b : Head) (fs hs : List ℕ) where
    pub start_ready : (z : Result (Unit {0}) Full) → BothSays p Start x e u b fs hs z → OnOk z (Ready u b)
    unfolding BothSays
    start_ready (Ok done) k = gains_ready k.gains
    start_ready (Err full) k = tt

    pub start_says : (z : Result (Unit {0}) Full) → BothSays p Start x e u b fs hs z → StartSays p w a u b hs z
    unfolding StartSays start_count moment_of
    start_says z k =
        let A = left p in
        let B = right p in
        let bare : Bare w a x e = record { used = empty; most = most; room = ap room_of clean ∙ cleared-room w; rest = ap rest_of clean ∙ cleared_rest w } in
        list_says (variables A B) (StartFun A B) (start_list_of A B) _ (start_columns A B) (both_trees A B lists.start) (start-named A B) (start_all A B)
        (h_tree A B lists.start) (joint p) (StartEqual A B) (start-tree A B) bare u b hs z (both_list p Start x e u b fs hs z k)
