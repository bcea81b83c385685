-- Laws of the words and the figures of a line. Assumes nothing.
use Prim.Native.Nat.{ℕ, ◌+◌, ◌^◌, ◌<◌}
use mathlib.Core.Path.{◌≡◌, refl, sym, ap, ◌∙◌}
use mathlib.Core.List.{List, [], ◌∷◌, ◌++◌, append_assoc, append-nil}
use native.Mathlib.Omega.{arith}
use lib.ListN.{length, take, get_or}
use Rattle.std.specs.Fmt as printed
use Rattle.std.proofs.lemmas.List.{take_more}
use lib.Chars.{codes}
use Rattle.meaning.specs.Numbers.{Refusal, File, Reason, START, STEP, OUTPUTS, number_of, number_of_file, number_of_reason}
use Rattle.meaning.specs.Answer.{Answer, equivalent, undecided, wrote, refusal, row_of}
use Rattle.answer.specs.declared.Refused.{Refused}
use Rattle.answer.specs.Meant.{answer_of, refusal_of, file_of}
use Rattle.desk.specs.declared.line.Mode.{Mode}
use Rattle.desk.specs.Line.{places_from, decimal, figures, name_of_mode, word_of_mode, words, numbers, refused_text, text_of, line_of}
use Rattle.desk.proofs.Decimal.{printed_decimal}

-- Figures behind figures.
pub figures-append : (ns ms : List ℕ) → figures (ns ++ ms) ≡ figures ns ++ figures ms
unfolding figures
figures-append [] ms = refl
figures-append (n ∷ ns) ms =
    ap (λ (l : List ℕ). (0x20 ∷ decimal n) ++ l) (figures-append ns ms) ∙ sym (append_assoc (0x20 ∷ decimal n) (figures ns) (figures ms))

-- One figure more of those that are put.
pub figures_more : (line ns : List ℕ) (i : ℕ) → i < length ns → get_or ns i 0 < 2 ^ 64
    → ((line ++ figures (take i ns)) ++ (0x20 ∷ [])) ++ printed.decimal (get_or ns i 0) ≡ line ++ figures (take (i + 1) ns)
unfolding figures
figures_more line ns i inside small = rw (take_more ns i 0 inside, figures-append (take i ns) (get_or ns i 0 ∷ []), printed_decimal (get_or ns i 0) small, append-nil) (append_assoc (line ++ figures (take i ns)) (0x20 ∷ []) (decimal (get_or ns i 0)) ∙ append_assoc line (figures (take i ns)) (0x20 ∷ decimal (get_or ns i 0)))

pub line_end : (m : Mode) (a : Answer) → text_of m a ++ (0x0A ∷ []) ≡ line_of m a
unfolding text_of line_of
line_end m a = append_assoc (words m a) (figures (numbers a)) (0x0A ∷ [])

-- ## What `{}` writes of an answer

last_figure : (n : ℕ) → n < 2 ^ 64 → 0x20 ∷ printed.decimal n ≡ figures (n ∷ [])
unfolding figures
last_figure n small = rw (printed_decimal n small, append-nil)

figure_before : (n : ℕ) (ns rest : List ℕ) → n < 2 ^ 64 → rest ≡ figures ns → 0x20 ∷ (printed.decimal n ++ rest) ≡ figures (n ∷ ns)
unfolding figures
figure_before n ns rest small is = rw (printed_decimal n small, is)

reason_small : (why : Reason) → number_of_reason why < 2 ^ 64
unfolding number_of_reason
reason_small START = omega arith
reason_small STEP = omega arith
reason_small OUTPUTS = omega arith

verdict : (m : Mode) (word rest : List ℕ) → name_of_mode m ++ (0x20 ∷ (word ++ rest)) ≡ (word_of_mode m ++ word) ++ rest
unfolding word_of_mode
verdict m word rest = sym (append_assoc (name_of_mode m ++ (0x20 ∷ [])) word rest ∙ append_assoc (name_of_mode m) (0x20 ∷ []) (word ++ rest))

-- a refusal is told in every mode alike
pub refused_anyhow : (m : Mode) (r : Refused) → refused_text r ≡ text_of m (refusal (refusal_of r.refusal) (file_of r.file) r.at)
unfolding refused_text text_of words answer_of
refused_anyhow m r = refl

module _ (m : Mode) where
  pub equivalent_text : (r nodes : ℕ) → r < 2 ^ 64 → nodes < 2 ^ 64
      → name_of_mode m ++ (codes " EQUIVALENT 0 0 " ++ (printed.decimal r ++ (0x20 ∷ printed.decimal nodes))) ≡ text_of m (equivalent r nodes)
  unfolding text_of words numbers row_of figures decimal places_from
  equivalent_text r nodes r-small nodes-small =
      rw (figure_before r (nodes ∷ []) _ r-small (last_figure nodes nodes-small)) (verdict m (codes "EQUIVALENT") (figures (0 ∷ 0 ∷ r ∷ nodes ∷ [])))

  pub undecided_text : (why : Reason) (i r nodes : ℕ) → i < 2 ^ 64 → r < 2 ^ 64 → nodes < 2 ^ 64
      → text_of m (undecided why i r nodes)
      ≡ name_of_mode m ++ (codes " UNDECIDED " ++ (printed.decimal (number_of_reason why) ++ (0x20 ∷ (printed.decimal i ++ (0x20 ∷ (printed.decimal r ++ (0x20 ∷ printed.decimal nodes)))))))
  unfolding text_of words numbers row_of
  undecided_text why i r nodes i-small r-small nodes-small =
      let last = figure_before (number_of_reason why) (i ∷ r ∷ nodes ∷ []) _ (reason_small why) (figure_before i (r ∷ nodes ∷ []) _ i-small (figure_before r (nodes ∷ []) _ r-small (last_figure nodes nodes-small))) in
      rw last (sym (verdict m (codes "UNDECIDED") (figures (number_of_reason why ∷ i ∷ r ∷ nodes ∷ []))))

  pub wrote_text : (k : ℕ) → k < 2 ^ 64 → codes "wrote " ++ printed.decimal k ≡ text_of m (wrote k)
  unfolding text_of words numbers row_of
  wrote_text k small = ap (λ (rest : List ℕ). codes "wrote" ++ rest) (last_figure k small)

  pub refusal_text : (k : Refusal) (file : File) (n f at : ℕ) → n ≡ number_of k → f ≡ number_of_file file → n < 2 ^ 64 → f < 2 ^ 64 → at < 2 ^ 64
      → codes "refused " ++ (printed.decimal n ++ (0x20 ∷ (printed.decimal f ++ (0x20 ∷ printed.decimal at)))) ≡ text_of m (refusal k file at)
  unfolding text_of words numbers row_of
  refusal_text k file n f at n-is f-is n-small f-small at-small =
      let last = figure_before n (f ∷ at ∷ []) _ n-small (figure_before f (at ∷ []) _ f-small (last_figure at at-small)) in
      rw (← n-is, ← f-is) (ap (λ (rest : List ℕ). codes "refused" ++ rest) last)
