-- Laws of what is read from a file: what a caller learns in each case, and that any two that meet the contract are equal. Assumes nothing.
use mathlib.Core.Path.{◌≡◌, refl, sym, ap, ◌∙◌}
use mathlib.Core.List.{List}
use Prim.Native.Nat.{ℕ}
use Rattle.std.specs.Prelude.{Result, Ok, Err, MatchResult, IsErrAnd}
use Rattle.meaning.specs.Sheet as paper
use Rattle.answer.specs.Meant.{refusal_of, read_by}
use Rattle.answer.specs.declared.Refusal.{Refusal}
use Rattle.answer.specs.declared.Fault.{Fault}
use Rattle.sheet.specs.declared.Sheet.{Sheet}
use Rattle.sheet.specs.Stored.{sheet_of, Whole}
use Rattle.sheet.specs.Reading.{Reads}
use Rattle.answer.proofs.Same.{refusal_same}
use Rattle.sheet.proofs.Mapped.{mapped_ok, mapped_err}
use Rattle.sheet.proofs.Whole.{whole_same}

-- ## The two cases

module _ {file : List ℕ} where
  pub reads_refused : {e : Fault} → Reads file (Err e) → paper.reading_of_sheet file ≡ paper.refused (refusal_of e.refusal) e.at
  unfolding read_by
  reads_refused q = sym q.is

  module _ {s : Sheet} (q : Reads file (Ok s)) where
    pub reads_good : paper.reading_of_sheet file ≡ paper.value (sheet_of s)
    unfolding read_by
    reads_good = sym q.is

    pub reads_whole : Whole s
    reads_whole = q.whole s refl

  -- the same from what is known after map_err, in which a closure makes f of a fault
  module _ {D : Type 0} (P : Fault → D → Type 0) {r : Result Sheet Fault} {t : Result Sheet D} (q : Reads file r)
      (m : MatchResult r (λ s. t ≡ Ok s) (λ e. IsErrAnd t (P e))) where
    pub reads_ok : {s : Sheet} → t ≡ Ok s → Reads file (Ok s)
    reads_ok {s} e = rw (mapped_ok P r t s m e) at q

    pub reads_err : (f : Fault → D) → ((e : Fault) (d : D) → P e d → d ≡ f e) → {d : D} → t ≡ Err d → (e : Fault) × (d ≡ f e) × Reads file (Err e)
    reads_err f h {d} e = let n = mapped_err P f h r t d m e in (n.0, n.2, rw n.1 at q)

-- ## One answer

fault_made : (e : Fault) {k : Refusal} {i : ℕ} → k ≡ e.refusal → i ≡ e.at → record { refusal = k; at = i } ≡ e
fault_made e p q = rw (p, q)

read_same : (x y : Result Sheet Fault) → read_by sheet_of x ≡ read_by sheet_of y
    → ((s : Sheet) → x ≡ Ok s → Whole s) → ((s : Sheet) → y ≡ Ok s → Whole s) → x ≡ y
unfolding read_by
read_same (Ok s) (Ok t) q v w = let p : sheet_of s ≡ sheet_of t = cc in rw (whole_same s t (v s refl) (w t refl) p)
read_same (Ok s) (Err e) q v w = cc
read_same (Err d) (Ok t) q v w = cc
read_same (Err d) (Err e) q v w =
    let p : refusal_of d.refusal ≡ refusal_of e.refusal = cc in
    let i : d.at ≡ e.at = cc in
    ap (λ (f : Fault). Err f) (fault_made e (refusal_same d.refusal e.refusal p) i)

pub reads_same : (file : List ℕ) (x y : Result Sheet Fault) → Reads file x → Reads file y → x ≡ y
reads_same file x y u v = read_same x y (u.is ∙ sym v.is) u.whole v.whole
