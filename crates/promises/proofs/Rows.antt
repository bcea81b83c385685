-- Different answers have different rows of numbers. Assumes nothing.
use mathlib.Core.Path.{◌≡◌, refl, sym, ap, ◌∙◌}
use mathlib.Core.List.{List, [], ◌∷◌}
use Prim.Native.Nat.{ℕ, ◌-◌}
use native.Mathlib.Omega.{arith}
use lib.ListN.{get_or}
use Rattle.meaning.specs.Numbers.{Refusal, SHORT, KIND, MANY, VALUE, LATER, AFTER, NO_OUTPUT, DANGLING, UNLIKE, COUNT, OUT, VECTOR, NO_ROOM, number_of, File, file_A, file_B, file_grouping, no_file, number_of_file, Reason, START, STEP, OUTPUTS, number_of_reason}
use Rattle.meaning.specs.Answer.{Answer, equivalent, undecided, wrote, refusal, row_of}

-- ## What a number stands for

refusal_of_number : ℕ → Refusal
refusal_of_number n =
    get_or (SHORT ∷ KIND ∷ MANY ∷ VALUE ∷ LATER ∷ AFTER ∷ NO_OUTPUT ∷ DANGLING ∷ UNLIKE ∷ COUNT ∷ OUT ∷ VECTOR ∷ []) (n - 10) NO_ROOM

refusal_numbered : (k : Refusal) → refusal_of_number (number_of k) ≡ k
unfolding refusal_of_number number_of
refusal_numbered SHORT = refl
refusal_numbered KIND = refl
refusal_numbered MANY = refl
refusal_numbered VALUE = refl
refusal_numbered LATER = refl
refusal_numbered AFTER = refl
refusal_numbered NO_OUTPUT = refl
refusal_numbered DANGLING = refl
refusal_numbered UNLIKE = refl
refusal_numbered COUNT = refl
refusal_numbered OUT = refl
refusal_numbered VECTOR = refl
refusal_numbered NO_ROOM = refl

file_of_number : ℕ → File
file_of_number n = get_or (file_A ∷ file_B ∷ file_grouping ∷ []) n no_file

file_numbered : (f : File) → file_of_number (number_of_file f) ≡ f
unfolding file_of_number number_of_file
file_numbered file_A = refl
file_numbered file_B = refl
file_numbered file_grouping = refl
file_numbered no_file = refl

reason_of_number : ℕ → Reason
reason_of_number n = get_or (START ∷ STEP ∷ []) (n - 1) OUTPUTS

reason_numbered : (w : Reason) → reason_of_number (number_of_reason w) ≡ w
unfolding reason_of_number number_of_reason
reason_numbered START = refl
reason_numbered STEP = refl
reason_numbered OUTPUTS = refl

pub number_only : (k k' : Refusal) → number_of k ≡ number_of k' → k ≡ k'
number_only k k' e = sym (refusal_numbered k) ∙ ap refusal_of_number e ∙ refusal_numbered k'

pub file_only : (f f' : File) → number_of_file f ≡ number_of_file f' → f ≡ f'
file_only f f' e = sym (file_numbered f) ∙ ap file_of_number e ∙ file_numbered f'

pub reason_only : (w w' : Reason) → number_of_reason w ≡ number_of_reason w' → w ≡ w'
reason_only w w' e = sym (reason_numbered w) ∙ ap reason_of_number e ∙ reason_numbered w'

-- ## Rows

-- the number at a place of a row
at : ℕ → List ℕ → ℕ
at i row = get_or row i 0

pub row_only : (x y : Answer) → row_of x ≡ row_of y → x ≡ y
unfolding row_of at
row_only (equivalent r n) (equivalent r' n') e = cc
row_only (equivalent r n) (undecided w i r' n') e = let z : ◌≡◌ {A = ℕ} 0 1 = ap (at 0) e in absurd (omega arith)
row_only (equivalent r n) (wrote k) e = let z : ◌≡◌ {A = ℕ} 0 1 = cc in absurd (omega arith)
row_only (equivalent r n) (refusal k f p) e = let z : ◌≡◌ {A = ℕ} 0 1 = cc in absurd (omega arith)
row_only (undecided w i r n) (equivalent r' n') e = let z : ◌≡◌ {A = ℕ} 1 0 = ap (at 0) e in absurd (omega arith)
row_only (undecided w i r n) (undecided w' i' r' n') e = let z : w ≡ w' = reason_only w w' (ap (at 1) e) in cc
row_only (undecided w i r n) (wrote k) e = let z : ◌≡◌ {A = ℕ} 0 1 = cc in absurd (omega arith)
row_only (undecided w i r n) (refusal k f p) e = let z : ◌≡◌ {A = ℕ} 0 1 = cc in absurd (omega arith)
row_only (wrote k) (equivalent r n) e = let z : ◌≡◌ {A = ℕ} 0 1 = cc in absurd (omega arith)
row_only (wrote k) (undecided w i r n) e = let z : ◌≡◌ {A = ℕ} 0 1 = cc in absurd (omega arith)
row_only (wrote k) (wrote k') e = cc
row_only (wrote k) (refusal k' f p) e = let z : ◌≡◌ {A = ℕ} 0 1 = cc in absurd (omega arith)
row_only (refusal k f p) (equivalent r n) e = let z : ◌≡◌ {A = ℕ} 0 1 = cc in absurd (omega arith)
row_only (refusal k f p) (undecided w i r n) e = let z : ◌≡◌ {A = ℕ} 0 1 = cc in absurd (omega arith)
row_only (refusal k f p) (wrote k') e = let z : ◌≡◌ {A = ℕ} 0 1 = cc in absurd (omega arith)
row_only (refusal k f p) (refusal k' f' p') e =
    let z : k ≡ k' = number_only k k' (ap (at 0) e) in
    let y : f ≡ f' = file_only f f' (ap (at 1) e) in
    cc
