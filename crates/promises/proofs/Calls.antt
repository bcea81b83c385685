-- What check and refine answer on the bytes of files, exactly, and what EQUIVALENT stands on. Assumes nothing.
use mathlib.Core.Path.{◌≡◌}
use mathlib.Core.List.{List}
use mathlib.Core.Logic.{◌↔◌}
use Prim.Native.Nat.{ℕ, ◌<◌}
use native.Mathlib.Omega.{arith}
use Rattle.meaning.specs.Sheet.{Sheet, value, reading_of_sheet}
use Rattle.meaning.specs.Joint.{total}
use Rattle.meaning.specs.Room.{capacity}
use Rattle.meaning.specs.Answer.{Answer, Outcome, silent, check_verdict, check_answer, refine_verdict, refine_answer}
use Rattle.laws.proofs.Basic.{exactly}
use Rattle.promises.specs.Calls.{FilesSay, CheckSays, RefineSays}
use Rattle.promises.proofs.Checks.{check_says, check_only}
use Rattle.promises.proofs.Refines.{refine_says, refine_only}
use Rattle.promises.proofs.Files.{files_say, files_only}
use Rattle.promises.proofs.ReadProper.{some_signal}
use Rattle.promises.proofs.Written.{classes-length}

-- the joint list of two sheets that are read is not empty
pub some_joint : (a : List ℕ) (A B : Sheet) → reading_of_sheet a ≡ value A → 0 < total A B
unfolding total
some_joint a A B e = omega (arith, some_signal a A e)

module _ (a b p : List ℕ) (words : ℕ) where
  pub check_exactly : (x : Answer) → ((check_answer a b p words).answer ≡ x) ↔ FilesSay a b p (CheckSays (capacity words)) x
  unfolding check_answer silent
  check_exactly =
      let next : Sheet → Sheet → List ℕ → Outcome = λ A B g. silent (check_verdict (capacity words) A B g) in
      exactly (FilesSay a b p (CheckSays (capacity words))) _
      (files_only a b p next (CheckSays (capacity words)) (λ A B g fs. check_only A B g (classes-length _ p g fs.read_p) (capacity words)))
      (_, files_say a b p next (CheckSays (capacity words)) (λ A B g fs. check_says A B g (classes-length _ p g fs.read_p) (capacity words)))

  pub refine_exactly : (space : ℕ) (x : Answer)
      → ((refine_answer a b p words space).answer ≡ x) ↔ FilesSay a b p (RefineSays (capacity words) space) x
  unfolding refine_answer
  refine_exactly space =
      let next : Sheet → Sheet → List ℕ → Outcome = refine_verdict (capacity words) space in
      exactly (FilesSay a b p (RefineSays (capacity words) space)) _
      (files_only a b p next (RefineSays (capacity words) space) (λ A B g fs. refine_only A B g (some_joint a A B fs.read_a) (capacity words) space))
      (_, files_say a b p next (RefineSays (capacity words) space) (λ A B g fs. refine_says A B g (some_joint a A B fs.read_a) (capacity words) space))
