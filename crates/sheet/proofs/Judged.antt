-- One record is judged as the paper says: the answer at each of its tests. Assumes nothing.
use mathlib.Core.Path.{◌≡◌, refl, sym, ◌∙◌}
use mathlib.Core.Bool.{true, false, ◌&&◌}
use mathlib.Core.List.{List, [], ◌∷◌}
use Prim.Native.Nat.{ℕ, ◌-◌, ◌≤◌, ◌<◌}
use native.Mathlib.Omega.{arith}
use lib.ListN.{length, get_or, drop, length-drop}
use lib.Dec.{eqb, ltb}
use lib.Seq.{get_or-drop}
use borrow.Author.Tests.{lt-ltb, le-ltb, leb-false}
use Rattle.std.specs.Prelude.{Ok, Err}
use Rattle.arrayvec.specs.ArrayVec.{array_vec_len}
use Rattle.meaning.specs.Numbers.{REGISTER, VALUE, LATER, max_outputs}
use Rattle.meaning.specs.Sheet as paper
use Rattle.answer.specs.Meant.{refusal_of}
use Rattle.answer.specs.declared.Refusal.{Refusal}
use Rattle.answer.specs.declared.Refusal.TheVariants.{Short, Many, Value, Later}
use Rattle.sheet.specs.declared.kind.Kind.{Kind}
use Rattle.sheet.specs.declared.kind.Kind.TheVariants.{Input, Register, Not, And, Or, Xor}
use Rattle.sheet.specs.declared.Signal.{Signal}
use Rattle.sheet.specs.declared.Sheet.{Sheet}
use Rattle.sheet.specs.declared.record.RecordKind.{RecordKind}
use Rattle.sheet.specs.declared.record.RecordKind.TheVariants as begins
use Rattle.sheet.specs.declared.record.Record.{Record}
use Rattle.sheet.specs.declared.record.Record.TheVariants as said
use Rattle.sheet.specs.Stored.{number_of_kind, Kept}
use Rattle.sheet.specs.Record.{part_of, number_of_record, Begins, signal_in, late_of, fault_is, Says, CanAdd, Judged}
use Rattle.sheet.proofs.Whole.{length_signals}
use Rattle.sheet.proofs.Tests.{many_output, late_second, sound_fits}

-- the names do not matter
many_any : (s : Sheet) (names : List (ℕ × ℕ)) (k : ℕ) → paper.exceeds_limits (part_of s names) k ≡ paper.exceeds_limits (part_of s []) k
unfolding paper.exceeds_limits part_of
many_any s names k = refl

late_any : (s : Sheet) (names : List (ℕ × ℕ)) (k a b : ℕ) → paper.operand_not_lower (part_of s names) k a b ≡ late_of (array_vec_len s.signals) k a b
unfolding paper.operand_not_lower late_of part_of
late_any s names k a b = rw (length_signals s)

known_kind : (k : Kind) → paper.kind_is_unknown (number_of_kind k) ≡ false
unfolding paper.kind_is_unknown
known_kind Input = refl
known_kind Register = refl
known_kind Not = refl
known_kind And = refl
known_kind Or = refl
known_kind Xor = refl

known : (k : RecordKind) → paper.kind_is_unknown (number_of_record k) ≡ false
unfolding paper.kind_is_unknown
known (begins.Signal k) = known_kind k
known begins.Output = refl
known begins.End = refl

module _ (rest : List ℕ) (s : Sheet) (w : Kept s × (0 < length rest)) where
  refuses : (f : Refusal)
      → ((names : List (ℕ × ℕ)) → fault_is (Err f) ≡ paper.fault_of (part_of s names) (get_or rest 0 0) (drop 1 rest)) → Judged rest s (Err f)
  refuses f h = record { fault = h; said = λ x e. cc }

  pub judged_kind : (f : Refusal) → Begins (get_or rest 0 0) (Err f) → Judged rest s (Err f)
  unfolding fault_is refusal_of paper.fault_of paper.first_fault
  judged_kind f b = refuses f (λ names. rw (b.0, b.1))

  module _ (k : RecordKind) (is : number_of_record k ≡ get_or rest 0 0) {n : ℕ} (body : n ≡ paper.body_of (number_of_record k)) where
    size : length (drop 1 rest) ≡ length rest - 1
    size = length-drop 1 rest

    pub judged_short : length rest ≤ n → Judged rest s (Err Short)
    unfolding fault_is refusal_of paper.fault_of paper.first_fault
    judged_short h =
        let l : length (drop 1 rest) < paper.body_of (number_of_record k) = omega (arith, size, w.1, body) in
        refuses Short (λ names. rw (← is, known k, lt-ltb _ _ l))

    module _ (whole : n < length rest) where
      enough : ltb (length (drop 1 rest)) (paper.body_of (number_of_record k)) ≡ false
      enough = let l : paper.body_of (number_of_record k) ≤ length (drop 1 rest) = omega (arith, size) in le-ltb _ _ l

      pub judged_many : true ≡ paper.exceeds_limits (part_of s []) (number_of_record k) → Judged rest s (Err Many)
      unfolding fault_is refusal_of paper.fault_of paper.first_fault
      judged_many m = refuses Many (λ names. rw (← is, known k, enough, many_any s names (number_of_record k), ← m))

      module _ (few : false ≡ paper.exceeds_limits (part_of s []) (number_of_record k)) where
        -- the tests that are left
        left : (names : List (ℕ × ℕ)) → paper.fault_of (part_of s names) (get_or rest 0 0) (drop 1 rest)
            ≡ paper.first_fault (
            (eqb (number_of_record k) REGISTER && ltb 1 (get_or rest 1 0), VALUE) ∷
            (late_of (array_vec_len s.signals) (number_of_record k) (get_or rest 1 0) (get_or rest 2 0), LATER) ∷
            []
            )
        unfolding paper.fault_of paper.first_fault
        left names =
            rw (← is, known k, enough, many_any s names (number_of_record k), ← few, get_or-drop 1 rest 0 0, get_or-drop 1 rest 1 0, late_any s names (number_of_record k) (get_or rest 1 0) (get_or rest 2 0))

        sound : (x : Record) → Says rest x → CanAdd s x → ((names : List (ℕ × ℕ)) → paper.sound ≡ paper.fault_of (part_of s names) (get_or rest 0 0) (drop 1 rest))
            → Judged rest s (Ok x)
        unfolding fault_is
        sound x says fits h = record {
          fault = h;
          said = λ y e. let p : x ≡ y = cc in rw (← p) (record { says = says; whole = rw (body, is) at whole; fits = fits });
        }

        pub judged_end : k ≡ begins.End → Judged rest s (Ok said.End)
        unfolding paper.first_fault late_of
        judged_end e = sound said.End (rw e at is) tt (λ names. sym (rw e at (left names)))

        pub judged_output : k ≡ begins.Output → Judged rest s (Ok (said.Output (record { pin = get_or rest 1 0; signal = get_or rest 2 0 })))
        unfolding paper.first_fault late_of
        judged_output e =
            sound (said.Output _) (rw e at is, refl, refl) (leb-false max_outputs (array_vec_len s.outputs) (sym (many_output w.0) ∙ sym (rw e at few)))
            (λ names. sym (rw e at (left names)))

        module _ (kind : Kind) (e : k ≡ begins.Signal kind) (x : Signal) (x-is : x ≡ signal_in rest kind) where
          tests : (names : List (ℕ × ℕ)) → paper.fault_of (part_of s names) (get_or rest 0 0) (drop 1 rest)
              ≡ paper.first_fault (
              (eqb (number_of_kind x.kind) REGISTER && ltb 1 x.a, VALUE) ∷
              (late_of (array_vec_len s.signals) (number_of_kind x.kind) x.a x.b, LATER) ∷
              []
              )
          tests names = rw (x-is, late_second (array_vec_len s.signals) kind (get_or rest 1 0) (get_or rest 2 0)) (rw e at (left names))

          pub judged_value : true ≡ (eqb (number_of_kind x.kind) REGISTER && ltb 1 x.a) → Judged rest s (Err Value)
          unfolding fault_is refusal_of paper.first_fault
          judged_value v = refuses Value (λ names. sym (rw (← v) at (tests names)))

          module _ (value : false ≡ (eqb (number_of_kind x.kind) REGISTER && ltb 1 x.a)) where
            pub judged_later : true ≡ late_of (array_vec_len s.signals) (number_of_kind x.kind) x.a x.b → Judged rest s (Err Later)
            unfolding fault_is refusal_of paper.first_fault
            judged_later l = refuses Later (λ names. sym (rw (← value, ← l) at (tests names)))

            pub judged_signal : false ≡ late_of (array_vec_len s.signals) (number_of_kind x.kind) x.a x.b → Judged rest s (Ok (said.Signal x))
            unfolding paper.first_fault
            judged_signal l =
                sound (said.Signal x) (rw x-is (rw e at is), rw x-is) (sound_fits s x (get_or rest 2 0) w.0 (rw x-is) (rw x-is (rw e at few)) value l)
                (λ names. sym (rw (← value, ← l) at (tests names)))
