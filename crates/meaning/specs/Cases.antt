-- The marked cases, as one table, and the statement that each call has the outcome that the table says. Assumes nothing.
use Rattle.std.specs.Prelude.{ℕ, ◌*◌, ◌≡◌, refl, List, [], ◌∷◌, ◌++◌, map, replicate}
use Rattle.meaning.specs.Numbers.{SHORT, AFTER, NO_OUTPUT, DANGLING, NO_ROOM, file_A, no_file, START, STEP, OUTPUTS}
use Rattle.meaning.specs.Basic.{up_from, least_from, same_list, keep, concat_map, pairwise, all_true, bits_of, from_bits, every}
use Rattle.meaning.specs.Sheet.{signal_is_input, signal_is_register, inputs, registers, part_of_nothing, body_of, kind_is_unknown, exceeds_limits, operand_not_lower, first_fault, fault_of, signal_of, add, named, ending, read_from, reading_of_sheet, read_classes_from, reading_of_classes, gate_kind, bytes_of_signal, bytes_of_output, bytes_of_sheet, bytes_of_classes}
use Rattle.meaning.specs.Tick.{gate_value, values_from, values, initial, sources, taken, shown, outputs_from, outputs_of}
use Rattle.meaning.specs.Joint.{class, first, matches, place, number_from, grouping, regsA, regs, ins, total, variables, f, s0, after, polarity, h, state_of, x_of, y_of, h_now, h_next, Q, start_same, step_same, start_fault, step_fault, outA, outB, paired, output_fault, T, rounds}
use Rattle.meaning.specs.Room.{funs, same_fun, is_constant, fixings, among, different, node_count, running, start_list_of, step_list_of, start_count, step_count, capacity}
use Rattle.meaning.specs.Answer.{Answer, equivalent, undecided, wrote, refusal, Outcome, silent, refuse, or_refuse, with_files, outputs_verdict, check_verdict, check_answer, step_counts, first_above, greatest, refine_verdict, refine_answer, bad_vector_place, run_answer, write_answer}

-- ## The benches

unfoldable pub L : List ℕ
L = 0x01 ∷ 0x00 ∷ 0x02 ∷ 0x00 ∷ 0x00 ∷ 0x07 ∷ 0x00 ∷ 0x01 ∷ 0x08 ∷ []

unfoldable pub I : List ℕ
I = 0x01 ∷ 0x00 ∷ 0x02 ∷ 0x01 ∷ 0x03 ∷ 0x03 ∷ 0x01 ∷ 0x03 ∷ 0x00 ∷ 0x07 ∷ 0x00 ∷ 0x02 ∷ 0x08 ∷ []

unfoldable pub J : List ℕ
J = 0x01 ∷ 0x00 ∷ 0x02 ∷ 0x00 ∷ 0x03 ∷ 0x03 ∷ 0x01 ∷ 0x03 ∷ 0x00 ∷ 0x07 ∷ 0x00 ∷ 0x02 ∷ 0x08 ∷ []

unfoldable pub D : List ℕ
D = 0x01 ∷ 0x00 ∷ 0x02 ∷ 0x00 ∷ 0x00 ∷ 0x02 ∷ 0x00 ∷ 0x01 ∷ 0x07 ∷ 0x00 ∷ 0x02 ∷ 0x08 ∷ []

unfoldable pub K : List ℕ
K = 0x01 ∷ 0x00 ∷ 0x02 ∷ 0x00 ∷ 0x00 ∷ 0x03 ∷ 0x01 ∷ 0x07 ∷ 0x00 ∷ 0x02 ∷ 0x08 ∷ []

unfoldable pub R : List ℕ
R = 0x02 ∷ 0x00 ∷ 0x00 ∷ 0x07 ∷ 0x00 ∷ 0x00 ∷ 0x08 ∷ []

unfoldable pub W : List ℕ
W = 0x02 ∷ 0x01 ∷ 0x02 ∷ 0x02 ∷ 0x00 ∷ 0x00 ∷ 0x02 ∷ 0x00 ∷ 0x01 ∷ 0x04 ∷ 0x01 ∷ 0x02 ∷ 0x07 ∷ 0x00 ∷ 0x03 ∷ 0x08 ∷ []

-- ## Calls, on files, with a table of so many nodes and a result with space for 481

pub data Call : Type 0 where
  refine check : List ℕ → List ℕ → List ℕ → ℕ → Call
  run : List ℕ → List ℕ → Call
  write : List ℕ → Call

unfoldable pub outcome : Call → Outcome
outcome (refine a b classes nodes) = refine_answer a b (bytes_of_classes classes) (10 * nodes) 481
outcome (check a b classes nodes) = check_answer a b (bytes_of_classes classes) (10 * nodes)
outcome (run a vectors) = run_answer a vectors 481
outcome (write a) = write_answer a 481

-- a call, what it answers, and what it writes
pub record Case : Type 0 where
  pub call : Call
  pub answer : Answer
  pub written : List ℕ

unfoldable pub case : Call → Answer → List ℕ → Case
case c a w = record { call = c; answer = a; written = w }

-- a proposal of one class
unfoldable pub one : ℕ → List ℕ
one n = replicate n 0

unfoldable pub marked : List Case
marked =
    -- 1 and 2
    case (refine L I (one 6) 3000) (equivalent 0 15) (bytes_of_classes (0 ∷ 1 ∷ 0 ∷ 1 ∷ 1 ∷ 0 ∷ [])) ∷
    case (refine L I (one 6) 15) (equivalent 0 15) (bytes_of_classes (0 ∷ 1 ∷ 0 ∷ 1 ∷ 1 ∷ 0 ∷ [])) ∷
    case (refine L I (one 6) 14) (refusal NO_ROOM no_file 1) [] ∷
    case (refine L I (one 6) 2) (refusal NO_ROOM no_file 1) [] ∷
    case (refine L I (one 6) 1) (refusal NO_ROOM no_file 0) [] ∷
    -- 3 to 6
    case (refine L J (one 6) 3000) (undecided OUTPUTS 0 1 18) (bytes_of_classes (0 ∷ 1 ∷ 0 ∷ 2 ∷ 2 ∷ 0 ∷ [])) ∷
    case (refine L D (one 5) 3000) (undecided OUTPUTS 0 1 26) (bytes_of_classes (0 ∷ 1 ∷ 0 ∷ 1 ∷ 2 ∷ [])) ∷
    case (refine L K (one 5) 3000) (undecided OUTPUTS 0 0 15) (bytes_of_classes (0 ∷ 1 ∷ 0 ∷ 1 ∷ 1 ∷ [])) ∷
    case (refine R W (one 5) 3000) (undecided OUTPUTS 0 2 28) (bytes_of_classes (0 ∷ 1 ∷ 2 ∷ 3 ∷ 4 ∷ [])) ∷
    -- 7 and 8
    case (check L D (0 ∷ 1 ∷ 0 ∷ 1 ∷ 1 ∷ []) 3000) (undecided STEP 4 0 26) [] ∷
    case (check L I (one 6) 3000) (undecided START 1 0 2) [] ∷
    case (check L I (up_from 0 6) 3000) (undecided OUTPUTS 0 0 8) [] ∷
    -- 9
    case (run L (1 ∷ 0 ∷ 1 ∷ [])) (wrote 3) (0 ∷ 1 ∷ 0 ∷ []) ∷
    case (run D (1 ∷ 0 ∷ 1 ∷ [])) (wrote 3) (0 ∷ 0 ∷ 1 ∷ []) ∷
    -- 10
    case (write []) (refusal SHORT file_A 0) [] ∷
    case (write (0x08 ∷ [])) (refusal NO_OUTPUT file_A 0) [] ∷
    case (write (0x02 ∷ 0x02 ∷ [])) (refusal SHORT file_A 0) [] ∷
    case (write (0x07 ∷ 0x00 ∷ 0x00 ∷ 0x08 ∷ [])) (refusal DANGLING file_A 0) [] ∷
    case (write (D ++ (0x00 ∷ []))) (refusal AFTER file_A 12) [] ∷
    []

-- A board with itself is EQUIVALENT; D with D is lost where Step leaves Q out.
unfoldable pub itself : List Case
itself =
    case (refine D D (one 6) 3000) (equivalent 1 40) (bytes_of_classes (0 ∷ 1 ∷ 2 ∷ 0 ∷ 1 ∷ 2 ∷ [])) ∷
    case (refine W W (one 8) 3000) (equivalent 2 61) (bytes_of_classes (0 ∷ 1 ∷ 2 ∷ 3 ∷ 0 ∷ 1 ∷ 2 ∷ 3 ∷ [])) ∷
    []

pub marked_hold : map (λ c. outcome c.call) (marked ++ itself) ≡ map (λ c. record { answer = c.answer; written = c.written }) (marked ++ itself)
unfolding up_from least_from same_list keep concat_map pairwise all_true bits_of from_bits every signal_is_input signal_is_register inputs registers part_of_nothing body_of kind_is_unknown exceeds_limits operand_not_lower first_fault fault_of signal_of add named ending read_from reading_of_sheet read_classes_from reading_of_classes gate_kind bytes_of_signal bytes_of_output bytes_of_sheet bytes_of_classes gate_value values_from values initial sources taken shown outputs_from outputs_of class first matches place number_from grouping regsA regs ins total variables f s0 after polarity h state_of x_of y_of h_now h_next Q start_same step_same start_fault step_fault outA outB paired output_fault T rounds funs same_fun is_constant fixings among different node_count running start_list_of step_list_of start_count step_count capacity silent refuse or_refuse with_files outputs_verdict check_verdict check_answer step_counts first_above greatest refine_verdict refine_answer bad_vector_place run_answer write_answer outcome L I J D K R W case one marked itself
marked_hold = refl
