-- Nodes are taken back: the newest is the first of its chain, and with a new stamp nothing in the cache counts. Assumes nothing.
use mathlib.Core.Path.{◌≡◌, refl, sym, ap, ◌∙◌}
use mathlib.Core.List.{List}
use Prim.Native.Nat.{ℕ, suc, ◌+◌, ◌<◌}
use native.Mathlib.Omega.{arith}
use native.Mathlib.Decide.{ℕ_discrete}
use Rattle.meaning.specs.Numbers.{node_words}
use Rattle.diagram.specs.declared.Head.{Head}
use Rattle.diagram.specs.declared.Op.{Op}
use Rattle.diagram.specs.Operation.{stamps}
use Rattle.diagram.specs.Words.{LOW, HIGH, NEXT, BUCKET, OPERATION, STAMP, at, store, room_of, rest_of, stamp_of}
use Rattle.diagram.specs.Table.{home_of, key_of, tree_at, unlinked, Home, On, Stamped, Silent, Cached, Good}
use Rattle.diagram.specs.Contract.{Ready, Wiped, Renewed, Remain, Forgets}
use Rattle.diagram.proofs.Codes.{code_some}
use Rattle.diagram.proofs.Stores.{at_same, at-node, at_word, room_store, rest_store}
use Rattle.diagram.proofs.Trees.{tree_frame, tree_old}
use Rattle.diagram.proofs.Chain.{on_next, on_above, on_frame}
use Rattle.diagram.proofs.Added.{bucket_lt}
use Rattle.diagram.proofs.Frame.{home_same, stamped_same, cache_good, cache_tree}

-- ## The cache

-- nothing in it counts: it is true of any nodes
silent_cached : (w : List ℕ) (n : ℕ) → Silent w → (i : ℕ) → i < room_of w → (op : Op) → at w i OPERATION ≡ key_of w op → Cached w n i op
unfolding Silent
silent_cached w n s i li op e = absurd (omega (arith, s i li, code_some op))

-- its slots are emptied one after the other
pub wiped_more : (w u : List ℕ) (n : ℕ) → Wiped w u n → n < room_of u → Wiped w (store u n OPERATION 0) (n + 1)
wiped_more w u n s lt = record {
  empty = λ i li. elim (ℕ_discrete i n) [
    | yes q ↦ ap (λ (j : ℕ). at (store u n OPERATION 0) j OPERATION) q ∙ at_same u n OPERATION 0 lt (omega arith)
    | no q ↦ at-node u n OPERATION 0 i OPERATION (omega arith) (omega arith) q ∙ s.empty i (omega arith)
  ];
  others = λ i k lk ne. at_word u n OPERATION 0 i k (omega arith) lk ne ∙ s.others i k lk ne;
  room = room_store u n OPERATION 0 ∙ s.room;
  rest = rest_store u n OPERATION 0 lt (omega arith) ∙ s.rest;
}

-- the next stamp: every slot has an earlier one
pub renewed_next : (w : List ℕ) (x : ℕ) → 0 < room_of w → Stamped w → x ≡ stamp_of w + 1 → x < stamps → Renewed w (store w 0 STAMP x)
unfolding Silent
renewed_next w x some s e lx =
    let u : List ℕ = store w 0 STAMP x in
    let room : room_of u ≡ room_of w = room_store w 0 STAMP x in
    let stamp : at u 0 STAMP ≡ x = at_same w 0 STAMP x some (omega arith) in
    let slot : (i : ℕ) → at u i OPERATION ≡ at w i OPERATION = λ i. at_word w 0 STAMP x i OPERATION (omega arith) (omega arith) (omega arith) in
    record {
      stamped = record { small = λ _. omega arith; slots = λ i li. omega (arith, slot i, s.slots i (omega arith)) };
      silent = λ i li. omega (arith, slot i, s.slots i (omega arith));
      nodes = λ i k lk. at_word w 0 STAMP x i k (omega arith) (omega arith) (omega arith);
      room = room;
      rest = rest_store w 0 STAMP x some (omega arith);
    }

-- the stamps start again once every slot is empty
pub renewed_first : (w u : List ℕ) → 0 < room_of w → Wiped w u (room_of w) → Renewed w (store u 0 STAMP 0)
unfolding Silent
renewed_first w u some s =
    let v : List ℕ = store u 0 STAMP 0 in
    let some-u : 0 < room_of u = omega (arith, s.room) in
    let room : room_of v ≡ room_of w = room_store u 0 STAMP 0 ∙ s.room in
    let stamp : at v 0 STAMP ≡ 0 = at_same u 0 STAMP 0 some-u (omega arith) in
    let slot : (i : ℕ) → i < room_of v → at v i OPERATION ≡ 0 = λ i li. at_word u 0 STAMP 0 i OPERATION (omega arith) (omega arith) (omega arith) ∙ s.empty i (omega arith) in
    record {
      stamped = record { small = λ _. omega arith; slots = λ i li. omega (arith, slot i li) };
      silent = λ i li. omega (arith, slot i li);
      nodes = λ i k lk. at_word u 0 STAMP 0 i k (omega arith) (omega arith) (omega arith) ∙ s.others i k (omega arith) (omega arith);
      room = room;
      rest = rest_store u 0 STAMP 0 some-u (omega arith) ∙ s.rest;
    }

-- ## The newest node goes

module _ (w : List ℕ) (n : ℕ) where
  unlinked-room : room_of (unlinked w n) ≡ room_of w
  unfolding unlinked
  unlinked-room = room_store w (home_of w n) BUCKET (at w n NEXT)

  -- all words but the buckets
  unlinked_else : (i k : ℕ) → k < node_words → (k ≡ BUCKET → ⊥) → at (unlinked w n) i k ≡ at w i k
  unfolding unlinked
  unlinked_else i k lk ne = at_word w (home_of w n) BUCKET (at w n NEXT) i k (omega arith) lk ne

  -- another bucket's first id
  unlinked_buckets : (j : ℕ) → (j ≡ home_of w n → ⊥) → at (unlinked w n) j BUCKET ≡ at w j BUCKET
  unfolding unlinked
  unlinked_buckets j ne = at-node w (home_of w n) BUCKET (at w n NEXT) j BUCKET (omega arith) (omega arith) ne

  unlinked_home : (i : ℕ) → home_of (unlinked w n) i ≡ home_of w i
  unlinked_home i = home_same w (unlinked w n) unlinked-room i (λ k lk. unlinked_else i k (omega arith) (omega arith))

  module _ (g : Good w (suc n)) where
    home_lt : home_of w n < room_of w
    home_lt = bucket_lt w _ _ _ (omega (arith, g.fits))

    unlinked_rest : rest_of (unlinked w n) ≡ rest_of w
    unfolding unlinked
    unlinked_rest = rest_store w (home_of w n) BUCKET (at w n NEXT) home_lt (omega arith)

    unlinked_bucket : (j : ℕ) → j ≡ home_of w n → at (unlinked w n) j BUCKET ≡ at w n NEXT
    unfolding unlinked
    unlinked_bucket j e = ap (λ (i : ℕ). at (unlinked w n) i BUCKET) e ∙ at_same w (home_of w n) BUCKET (at w n NEXT) home_lt (omega arith)

    unlinked-tree : (x : ℕ) → x < n + 2 → tree_at (unlinked w n) n x ≡ tree_at w (suc n) x
    unlinked-tree x lx = tree_frame w (unlinked w n) n x (λ i k li lk. unlinked_else i k (omega arith) (omega arith)) ∙ sym (tree_old w n x (omega arith))

    -- the newest node is the first of its chain
    newest_first : at w (home_of w n) BUCKET ≡ n + 2
    newest_first =
        let lt = g.first (home_of w n) home_lt in
        omega (arith, on_above (suc n) g.next (g.chained n (omega arith)) lt)

    unlinked-first : (b : ℕ) → b < room_of w → at (unlinked w n) b BUCKET < n + 2
    unlinked-first b lb = elim (ℕ_discrete b (home_of w n)) [
      | yes q ↦ omega (arith, unlinked_bucket b q, g.next n (omega arith))
      | no q ↦
          let other : at w b BUCKET ≡ n + 2 → ⊥ = λ e. q (sym (g.first_home b lb n e)) in
          omega (arith, unlinked_buckets b q, g.first b lb, other)
    ]

    unlinked_chained : (i : ℕ) → i < n → On (unlinked w n) i (at (unlinked w n) (home_of (unlinked w n) i) BUCKET)
    unlinked_chained i li =
        let u : List ℕ = unlinked w n in
        let j : ℕ = home_of w i in
        let lj : j < room_of w = bucket_lt w _ _ _ (omega (arith, g.fits)) in
        let o : On u i (at w j BUCKET) = on_frame u (suc n) (λ k lk. unlinked_else k NEXT (omega arith) (omega arith)) g.next (g.chained i (omega arith)) (g.first j lj) in
        let same : j ≡ home_of w n → On u i (at u j BUCKET) = λ q.
        let e : at w j BUCKET ≡ n + 2 = ap (λ (k : ℕ). at w k BUCKET) q ∙ newest_first in
        let on : On u i (at u n NEXT) = on_next n o e (omega arith) in
        let e3 : at u n NEXT ≡ at u j BUCKET = unlinked_else n NEXT (omega arith) (omega arith) ∙ sym (unlinked_bucket j q) in
        rw e3 at on in
        let other : (j ≡ home_of w n → ⊥) → On u i (at u j BUCKET) = λ q. rw (unlinked_buckets j q) o in
        let r : On u i (at u j BUCKET) = elim (ℕ_discrete j (home_of w n)) [ yes q ↦ same q | no q ↦ other q ] in
        rw (unlinked_home i) r

    unlinked-first_home : (b : ℕ) → b < room_of w → Home (unlinked w n) b (at (unlinked w n) b BUCKET)
    unlinked-first_home b lb i e = unlinked_home i ∙ elim (ℕ_discrete b (home_of w n)) [
      | yes q ↦ g.next_home n (omega arith) i (sym (unlinked_bucket b q) ∙ e) ∙ sym q
      | no q ↦ g.first_home b lb i (sym (unlinked_buckets b q) ∙ e)
    ]

    module _ (s : Silent w) where
      unlinked-silent : Silent (unlinked w n)
      unfolding Silent
      unlinked-silent i li =
          let stamp = unlinked_else 0 STAMP (omega arith) (omega arith) in
          omega (arith, unlinked_else i OPERATION (omega arith) (omega arith), s i (omega (arith, unlinked-room)))

      unlinked_good : Good (unlinked w n) n
      unlinked_good = record {
        fits = omega (arith, unlinked-room, g.fits);
        low = λ i li. omega (arith, unlinked_else i LOW (omega arith) (omega arith), g.low i (omega arith));
        high = λ i li. omega (arith, unlinked_else i HIGH (omega arith) (omega arith), g.high i (omega arith));
        reduced = λ x lx. rw (unlinked-tree x lx) (g.reduced x (omega arith));
        once = λ x y lx ly q. g.once x y (omega arith) (omega arith) (sym (unlinked-tree x lx) ∙ q ∙ unlinked-tree y ly);
        next = λ i li. omega (arith, unlinked_else i NEXT (omega arith) (omega arith), g.next i (omega arith));
        first = λ b lb. unlinked-first b (omega (arith, unlinked-room));
        chained = unlinked_chained;
        first_home = λ b lb. unlinked-first_home b (omega (arith, unlinked-room));
        next_home = λ j lj i e. unlinked_home i ∙ g.next_home j (omega arith) i (sym (unlinked_else j NEXT (omega arith) (omega arith)) ∙ e) ∙ sym (unlinked_home j);
        stamped = stamped_same w (unlinked w n) unlinked-room (λ i k lo lk. unlinked_else i k lk (omega arith)) g.stamped;
        cached = silent_cached (unlinked w n) n unlinked-silent;
      }

-- ## One after the other

pub remain_all : (w : List ℕ) (n : ℕ) → Good w n → Silent w → Remain w n w n
remain_all w n g s = record { good = g; silent = s; same = λ x lx. refl; room = refl; rest = refl }

pub remain_fewer : (w : List ℕ) (n : ℕ) (u : List ℕ) (m k : ℕ) → Remain w n u m → m ≡ suc k → Remain w n (unlinked u k) k
remain_fewer w n u m k r e =
    let q : Remain w n u (suc k) = rw e at r in
    let g = q.good in
    record {
      good = unlinked_good u k g q.silent;
      silent = unlinked-silent u k g q.silent;
      same = λ x lx. unlinked-tree u k g x lx ∙ q.same x (omega arith);
      room = unlinked-room u k ∙ q.room;
      rest = unlinked_rest u k g ∙ q.rest;
    }

-- ## What the functions need

-- a table in order stays so when nothing in the cache counts any more
pub renewed_good : (w u : List ℕ) (n : ℕ) → Good w n → Renewed w u → Good u n
renewed_good w u n g r = cache_good w u r.room r.nodes n g r.stamped (silent_cached u n r.silent)

pub forgets_some : (w : List ℕ) (a : Head) (mark : ℕ) (v u : List ℕ) (b : Head) → Ready w a → Renewed w v → Remain v a.used u mark
    → b.used ≡ mark → b.most ≡ a.most → Forgets w a mark u b
forgets_some w a mark v u b k r m e f = record {
  good = m.good;
  same = λ x lx. m.same x lx ∙ cache_tree w v r.room r.nodes a.used k.good x;
  used = e;
  most = f;
  room = m.room ∙ r.room;
  rest = m.rest ∙ r.rest;
}
