-- `start::branches_at`: a constant, a node of another height, a node of this height. Assumes nothing.
use Rattle.std.proofs.Common.{refl, sym, ◌∙◌}
use Rattle.diagram.proofs.Branching.{branches_constant, branches_other, branches_own}
use Rattle.diagram.proofs.start.branches_at.Goals as goal
use Rattle.diagram.proofs.start.branches_at.Goals.{then-id-lt2-via-then-id-lt2, then-id-lt2-via-else-id-lt2+then-word-v}

pub returns-then-id-lt2 : goal.returns-then-id-lt2
returns-then-id-lt2 c = elim c.then-id-lt2.branch [
  | then-id-lt2-via-then-id-lt2 w ↦ branches_constant _ _ _ _ c.requires.1 w.if-id-lt2.true _ refl refl
  | then-id-lt2-via-else-id-lt2+then-word-v w ↦
      branches_other _ _ _ _ c.requires.1 c.requires.0 w.if-id-lt2.false (λ e. w.if-word-v.true (w.word.ensures.0 ∙ e)) _ refl refl
]

pub returns : goal.returns
returns c =
    branches_own _ _ _ _ c.requires.1 c.requires.0 c.if-id-lt2.false (sym c.word.ensures.0 ∙ c.if-word-v.false) _ c.word-2.ensures.0 c.word-3.ensures.0
