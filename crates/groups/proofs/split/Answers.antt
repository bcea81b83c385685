-- The class number is the first member's or the next, so one signal more is numbered. Assumes nothing.
use Rattle.std.proofs.Common.{arith, ◌≡◌, ◌<◌, ◌≤◌, get_or}
use Rattle.groups.specs.ByIds.{first_by, split_by}
use Rattle.groups.proofs.Same.{same_equivalence}
use Rattle.groups.proofs.Numbering.{numbered_none, numbered_next, numbered_all}
use Rattle.groups.proofs.split.Goals as goal
use Rattle.groups.proofs.split.Goals.{then-u-v, else-u-v}

pub loop-v-init : goal.loop-v-init
loop-v-init c = numbered_none _ _ _ (omega arith)

pub loop-v-preserved : goal.loop-v-preserved
unfolding first_by
loop-v-preserved c =
    let l = c.loop-v in
    let old : c.first-u.result < l.v → c.if-u-v.c ≡ get_or l.out c.first-u.result 0 =
    elim c.if-u-v.branch [ then-u-v w ↦ λ _. w.c-is | else-u-v w ↦ λ h. absurd (omega arith) ] in
    let new : l.v ≤ c.first-u.result → c.if-u-v.c ≡ l.count =
    elim c.if-u-v.branch [ then-u-v w ↦ λ h. absurd (omega arith) | else-u-v w ↦ λ _. w.c-is ] in
    numbered_next _ (same_equivalence _ _) _ l.out l.count l.v l.invariant c.loop-v-test.true
    _ c.first-u.ensures.0 c.first-u.ensures.1 _ old new _ c.max-count.ensures

pub returns : goal.returns
unfolding split_by
returns c =
    numbered_all _ _ _ _ _ c.loop-v.invariant c.loop-v-test.false
