-- One record: it is sound or has one fault, just as the reader's tests say. Assumes nothing.
use mathlib.Core.Path.{◌≡◌, refl}
use mathlib.Core.Bool.{Bool, true, false, ◌&&◌, ◌||◌}
use mathlib.Core.List.{List, [], ◌∷◌, ◌++◌}
use mathlib.Core.Logic.{◌↔◌}
use Prim.Native.Nat.{ℕ, zero, suc, ◌≤◌, ◌<◌}
use native.Mathlib.Omega.{arith}
use lib.ListN.{length, get_or}
use lib.Dec.{eqb, ltb, leb}
use borrow.Author.Tests.{ltb-false, leb-true, leb-false, eqb-true, le-ltb, lt-leb, le-leb, eq-eqb}
use Rattle.meaning.specs.Numbers.{INPUT, REGISTER, NOT, AND, XOR, OUTPUT, END, max_inputs, max_registers, max_signals, max_outputs, SHORT, KIND, MANY, VALUE, LATER, AFTER, NO_OUTPUT, DANGLING, UNLIKE, COUNT, OUT, VECTOR, NO_ROOM}
use Rattle.meaning.specs.Sheet.{Gate, and, or, xor, gate, Part, inputs, registers, body_of, kind_is_unknown, exceeds_limits, operand_not_lower, Fault, sound, faulty, first_fault, fault_of, signal_of, add, gate_kind}
use Rattle.laws.proofs.Basic.{case_bool, true_false, and_both, and_left, and_right}
use Rattle.promises.specs.Reading.{Known, Whole, Few, Binary, Lower, Sound, Faulty, unknown_kind, too_short, too_many, bad_value, not_lower}

-- ## Tests that fail exactly where something holds

abbrev Fails : Bool → Type 0 → Type 0
Fails t P = (t ≡ false) ↔ P

module _ {P : Type 0} (t : Bool) (f : Fails t P) where
  passes : ¬ P → t ≡ true
  passes n = case_bool t (λ e. e) (λ e. absurd (n (f.0 e)))

  refutes : t ≡ true → ¬ P
  refutes e p = true_false t e (f.1 p)

or_fails : {P Q : Type 0} (a b : Bool) → Fails a P → Fails b Q → Fails (a || b) (P × Q)
or_fails true b f g = ((λ e. true_false true refl e), (λ h. true_false true refl (f.1 h.0)))
or_fails false b f g = ((λ e. (f.0 refl, g.0 e)), (λ h. g.1 h.1))

and_fails : {P Q : Type 0} (a b : Bool) → (a ≡ true) ↔ P → Fails b Q → Fails (a && b) (P → Q)
and_fails true b f g = ((λ e p. g.0 e), (λ h. g.1 (h (f.0 refl))))
and_fails false b f g = ((λ e p. true_false false (f.1 p) refl), (λ h. refl))

ltb_fails : (a b : ℕ) → Fails (ltb a b) (b ≤ a)
ltb_fails a b = (ltb-false a b, le-ltb a b)

leb_fails : (a b : ℕ) → Fails (leb a b) (b < a)
leb_fails a b = (leb-false a b, lt-leb a b)

eqb_holds : (a b : ℕ) → (eqb a b ≡ true) ↔ (a ≡ b)
eqb_holds a b = (eqb-true a b, eq-eqb a b)

leb_holds : (a b : ℕ) → (leb a b ≡ true) ↔ (a ≤ b)
leb_holds a b = (leb-true a b, le-leb a b)

and_holds : {P Q : Type 0} (a b : Bool) → (a ≡ true) ↔ P → (b ≡ true) ↔ Q → (a && b ≡ true) ↔ (P × Q)
and_holds a b f g = (
  (λ e. (f.0 (and_left a b e), g.0 (and_right a b e))),
  (λ h. and_both a b (f.1 h.0) (g.1 h.1)),
)

-- ## The five tests of a record, and the first fault

abbrev pub Judged : Part → ℕ → List ℕ → Fault → Type 0
Judged p k rest sound = Sound p k rest
Judged p k rest (faulty r) = Faulty p k rest r

module _ (p : Part) (k : ℕ) (rest : List ℕ) where
  known_test : Fails (kind_is_unknown k) (Known k)
  unfolding kind_is_unknown
  known_test =
      let both = or_fails _ _ (ltb_fails k INPUT) (ltb_fails END k) in (
        (λ e. record { least = (both.0 e).0; greatest = (both.0 e).1 }),
        (λ h. both.1 (h.least, h.greatest)),
      )

  whole_test : Fails (ltb (length rest) (body_of k)) (Whole k rest)
  unfolding Whole
  whole_test = ltb_fails (length rest) (body_of k)

  few_test : Fails (exceeds_limits p k) (Few p k)
  unfolding exceeds_limits
  few_test =
      let signals = and_fails _ _ (leb_holds k XOR) (leb_fails max_signals (length p.signals)) in
      let ins = and_fails _ _ (eqb_holds k INPUT) (leb_fails max_inputs (inputs p.signals)) in
      let regs = and_fails _ _ (eqb_holds k REGISTER) (leb_fails max_registers (registers p.signals)) in
      let outs = and_fails _ _ (eqb_holds k OUTPUT) (leb_fails max_outputs (length p.outputs)) in
      let all = or_fails _ _ (or_fails _ _ (or_fails _ _ signals ins) regs) outs in (
        (λ e. let h = all.0 e in record { signal = h.0.0.0; input = h.0.0.1; register = h.0.1; output = h.1 }),
        (λ h. all.1 (((h.signal, h.input), h.register), h.output)),
      )

  binary_test : Fails (eqb k REGISTER && ltb 1 (get_or rest 0 0)) (Binary k rest)
  unfolding Binary
  binary_test = and_fails _ _ (eqb_holds k REGISTER) (ltb_fails 1 (get_or rest 0 0))

  lower_test : Fails (operand_not_lower p k (get_or rest 0 0) (get_or rest 1 0)) (Lower p k rest)
  unfolding operand_not_lower
  lower_test =
      let a = and_fails _ _ (and_holds _ _ (leb_holds NOT k) (leb_holds k XOR)) (leb_fails (length p.signals) (get_or rest 0 0)) in
      let b = and_fails _ _ (and_holds _ _ (leb_holds AND k) (leb_holds k XOR)) (leb_fails (length p.signals) (get_or rest 1 0)) in
      let both = or_fails _ _ a b in (
        (λ e. let h = both.0 e in record { one = λ l g. h.0 (l, g); two = λ l g. h.1 (l, g) }),
        (λ h. both.1 ((λ w. h.one w.0 w.1), (λ w. h.two w.0 w.1))),
      )

  pub judged_is : (f : Fault) → Judged p k rest f → fault_of p k rest ≡ f
  unfolding fault_of first_fault
  judged_is sound j =
      rw (known_test.1 j.known, whole_test.1 j.whole, few_test.1 j.few, binary_test.1 j.binary, lower_test.1 j.lower)
  judged_is (faulty KIND) (unknown_kind n) = rw (passes _ known_test n)
  judged_is (faulty SHORT) (too_short h n) = rw (known_test.1 h, passes _ whole_test n)
  judged_is (faulty MANY) (too_many h w n) = rw (known_test.1 h, whole_test.1 w, passes _ few_test n)
  judged_is (faulty VALUE) (bad_value h w f n) =
      rw (known_test.1 h, whole_test.1 w, few_test.1 f, passes _ binary_test n)
  judged_is (faulty LATER) (not_lower h w f b n) =
      rw (known_test.1 h, whole_test.1 w, few_test.1 f, binary_test.1 b, passes _ lower_test n)
  judged_is (faulty AFTER) j = elim j [ ]
  judged_is (faulty NO_OUTPUT) j = elim j [ ]
  judged_is (faulty DANGLING) j = elim j [ ]
  judged_is (faulty UNLIKE) j = elim j [ ]
  judged_is (faulty COUNT) j = elim j [ ]
  judged_is (faulty OUT) j = elim j [ ]
  judged_is (faulty VECTOR) j = elim j [ ]
  judged_is (faulty NO_ROOM) j = elim j [ ]

  pub judge : (f : Fault) × Judged p k rest f
  judge =
      case_bool _ (λ e. (faulty KIND, unknown_kind (refutes _ known_test e))) λ e.
      let h = known_test.0 e in
      case_bool _ (λ e. (faulty SHORT, too_short h (refutes _ whole_test e))) λ e.
      let w = whole_test.0 e in
      case_bool _ (λ e. (faulty MANY, too_many h w (refutes _ few_test e))) λ e.
      let f = few_test.0 e in
      case_bool _ (λ e. (faulty VALUE, bad_value h w f (refutes _ binary_test e))) λ e.
      let b = binary_test.0 e in
      case_bool _ (λ e. (faulty LATER, not_lower h w f b (refutes _ lower_test e))) λ e.
      (sound, record { known = h; whole = w; few = f; binary = b; lower = lower_test.0 e })

-- ## AND, OR and XOR are records of one form

pub gate-least : (g : Gate) → AND ≤ gate_kind g
unfolding gate_kind
gate-least and = omega arith
gate-least or = omega arith
gate-least xor = omega arith

pub gate-greatest : (g : Gate) → gate_kind g ≤ XOR
unfolding gate_kind
gate-greatest and = omega arith
gate-greatest or = omega arith
gate-greatest xor = omega arith

pub gate_body : (g : Gate) → body_of (gate_kind g) ≡ 2
unfolding gate_kind body_of
gate_body and = refl
gate_body or = refl
gate_body xor = refl

pub gate-add : (g : Gate) (p : Part) (at a b : ℕ)
    → add p at (gate_kind g) a b ≡ record { signals = p.signals ++ (gate g a b ∷ []); outputs = p.outputs; naming = p.naming }
unfolding gate_kind add signal_of
gate-add and p at a b = refl
gate-add or p at a b = refl
gate-add xor p at a b = refl

-- ## The kinds of records before END

pub data Kind : ℕ → Type 0 where
  is_input : Kind INPUT
  is_register : Kind REGISTER
  is_inverter : Kind NOT
  is_gate : (g : Gate) → Kind (gate_kind g)
  is_output : Kind OUTPUT

pub kind_of : (k : ℕ) → Known k → ¬ (k ≡ END) → Kind k
unfolding gate_kind
kind_of zero h n = absurd (omega (arith, h.least))
kind_of (suc zero) h n = is_input
kind_of (suc (suc zero)) h n = is_register
kind_of (suc (suc (suc zero))) h n = is_inverter
kind_of (suc (suc (suc (suc zero)))) h n = is_gate and
kind_of (suc (suc (suc (suc (suc zero))))) h n = is_gate or
kind_of (suc (suc (suc (suc (suc (suc zero)))))) h n = is_gate xor
kind_of (suc (suc (suc (suc (suc (suc (suc zero))))))) h n = is_output
kind_of (suc (suc (suc (suc (suc (suc (suc (suc zero)))))))) h n = absurd (n refl)
kind_of (suc (suc (suc (suc (suc (suc (suc (suc (suc k))))))))) h n = absurd (omega (arith, h.greatest))
