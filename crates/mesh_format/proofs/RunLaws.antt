-- Runs of bytes that pass a test.
--     run-le, run-append, run-passes, run-rest, run_none      the run at the front of a list
--     RunAt, run_at, run_length, run-part      the longest run from a position on
--     SomeAt, some_bytes-iff      .. of one byte or more, and that `word` and `gap` read it
use mathlib.Core.Path.{◌≡◌, refl, sym, ap, ◌∙◌, ap₂, subst₂}
use mathlib.Core.Logic.{◌↔◌}
use mathlib.Core.Bool.{Bool, true, false, cond, and-eq-true_iff, true≢false}
use mathlib.Core.List.{List, [], ◌∷◌, ◌++◌}
use Prim.Native.Nat.{ℕ, zero, suc, ◌+◌, ◌≤◌, ◌<◌, zero-le, suc-le-suc}
use native.Mathlib.Nat.{zero-add, zero-lt-suc, not-suc-le-zero}
use native.Mathlib.Omega.{arith}
use lib.ListN.{length, take, drop, take-append-drop}
use lib.Seq.{length-take-le, take-append_seam, drop-drop}
use Rattle.lists.specs.Same.{every}
use Rattle.mesh_format.specs.Parse.{parsed, run, part, some_bytes}
use Rattle.mesh_format.proofs.ReadLaws.{malformed-fails, parsed-inj}
use Rattle.mesh_format.proofs.Spans.{Spans}

-- ---- at the front of a list

module _ (test : ℕ → Bool) where
  pub every_append : (v w : List ℕ) → every test v ≡ true → every test w ≡ true → every test (v ++ w) ≡ true
  unfolding every
  every_append [] w h k = k
  every_append (b ∷ v) w h k =
      let c = (and-eq-true_iff (test b) (every test v)).0 h in (and-eq-true_iff (test b) (every test (v ++ w))).1 (c.0, every_append v w c.1 k)

  pub run-le : (u : List ℕ) → run test u ≤ length u
  unfolding run
  run-le [] = zero-le
  run-le (b ∷ u) = pick (test b) (run-le u)
    where
      pick : (t : Bool) → run test u ≤ length u → cond t (suc (run test u)) 0 ≤ suc (length u)
      pick true h = suc-le-suc h
      pick false h = zero-le

  pub run-append : (w r : List ℕ) → every test w ≡ true → run test (w ++ r) ≡ length w + run test r
  unfolding run every
  run-append [] r h = sym (zero-add (run test r))
  run-append (b ∷ w) r h =
      let k = (and-eq-true_iff (test b) (every test w)).0 h in rw k.0 (omega (arith, run-append w r k.1))

  pub run-passes : (u : List ℕ) → every test (take (run test u) u) ≡ true
  unfolding run every
  run-passes [] = refl
  run-passes (b ∷ u) = pick (test b) refl (run-passes u)
    where
      pick : (t : Bool) → test b ≡ t → every test (take (run test u) u) ≡ true → every test (take (cond t (suc (run test u)) 0) (b ∷ u)) ≡ true
      pick true e h = rw e h
      pick false e h = refl

  pub run-rest : (u : List ℕ) → run test (drop (run test u) u) ≡ 0
  unfolding run
  run-rest [] = refl
  run-rest (b ∷ u) = pick (test b) refl (run-rest u)
    where
      pick : (t : Bool) → test b ≡ t → run test (drop (run test u) u) ≡ 0 → run test (drop (cond t (suc (run test u)) 0) (b ∷ u)) ≡ 0
      pick true e h = h
      pick false e h = rw e

  -- no run: the first byte, if there is one, does not pass
  pub run_none : (b : ℕ) (u : List ℕ) → run test (b ∷ u) ≡ 0 ↔ test b ≡ false
  unfolding run
  run_none b u = (pick (test b), λ e. rw e)
    where
      pick : (t : Bool) → cond t (suc (run test u)) 0 ≡ 0 → t ≡ false
      pick true e = absurd (omega arith)
      pick false e = refl

  pub run-one : (b : ℕ) → test b ≡ false → (u : List ℕ) → run test (b ∷ u) ≡ 0
  run-one b e u = (run_none b u).1 e

module _ {test other : ℕ → Bool} (implies : (b : ℕ) → test b ≡ true → other b ≡ true) where
  pub every-implies : (w : List ℕ) → every test w ≡ true → every other w ≡ true
  unfolding every
  every-implies [] h = refl
  every-implies (b ∷ w) h =
      let k = (and-eq-true_iff (test b) (every test w)).0 h in (and-eq-true_iff (other b) (every other w)).1 (implies b k.0, every-implies w k.1)

  pub none-implies : (u : List ℕ) → run other u ≡ 0 → run test u ≡ 0
  unfolding run
  none-implies [] h = refl
  none-implies (b ∷ u) h = pick (test b) refl
    where
      pick : (t : Bool) → test b ≡ t → cond t (suc (run test u)) 0 ≡ 0
      pick true e = absurd (true≢false (sym (implies b e) ∙ (run_none other b u).0 h))
      pick false e = refl

-- ---- from a position of a text

-- from `at` to `next` all bytes, w, pass the test, and no further
pub record RunAt (test : ℕ → Bool) (s : List ℕ) (at : ℕ) (w : List ℕ) (next : ℕ) : Type 0 where
  pub passes : every test w ≡ true
  pub spans : Spans s at w next
  pub stops : run test (drop next s) ≡ 0

module _ (test : ℕ → Bool) (s : List ℕ) (at : ℕ) where
  pub run_at : let n : ℕ = run test (drop at s) in RunAt test s at (part s at n) (at + n)
  run_at =
      let n : ℕ = run test (drop at s) in
      let behind : drop n (drop at s) ≡ drop (at + n) s = drop-drop n at s in
      record {
        passes = run-passes test (drop at s);
        spans = record {
          reads = sym (ap (λ (r : List ℕ). part s at n ++ r) (sym behind) ∙ take-append-drop n (drop at s));
          ends = ap (λ (k : ℕ). at + k) (sym (length-take-le n (drop at s) (run-le test (drop at s))));
        };
        stops = rw behind at (run-rest test (drop at s));
      }

  module _ {w : List ℕ} {next : ℕ} (h : RunAt test s at w next) where
    pub run_length : run test (drop at s) ≡ length w
    run_length = rw h.spans.reads (omega (arith, run-append test w (drop next s) h.passes, h.stops))

    pub run-part : part s at (length w) ≡ w
    run-part = rw h.spans.reads (take-append_seam w (drop next s))

-- .. and they are some
pub record SomeAt (test : ℕ → Bool) (s : List ℕ) (at : ℕ) (w : List ℕ) (next : ℕ) : Type 0 where
  pub some : 0 < length w
  pub run : RunAt test s at w next

module _ (s : List ℕ) (at : ℕ) where
  some_bytes-some : (n : ℕ) {w : List ℕ} {next : ℕ} → some_bytes s at n ≡ parsed w next → 0 < n
  unfolding some_bytes
  some_bytes-some zero e = absurd (malformed-fails e)
  some_bytes-some (suc n) e = zero-lt-suc n

  some_bytes-parsed : (n : ℕ) → 0 < n → some_bytes s at n ≡ parsed (part s at n) (at + n)
  unfolding some_bytes
  some_bytes-parsed zero h = absurd (not-suc-le-zero h)
  some_bytes-parsed (suc n) h = refl

  pub some_bytes-iff : (test : ℕ → Bool) {w : List ℕ} {next : ℕ} → some_bytes s at (run test (drop at s)) ≡ parsed w next ↔ SomeAt test s at w next
  some_bytes-iff test {w} {next} = (to, from)
    where
      to : some_bytes s at (run test (drop at s)) ≡ parsed w next → SomeAt test s at w next
      to e =
          let n : ℕ = run test (drop at s) in
          let some : 0 < n = some_bytes-some n e in
          let same : (part s at n ≡ w) × (at + n ≡ next) = parsed-inj (sym (some_bytes-parsed n some) ∙ e) in
          let r : RunAt test s at w next = subst₂ (RunAt test s at) same.0 same.1 (run_at test s at) in
          record { some = rw (run_length test s at r) at some; run = r }

      from : SomeAt test s at w next → some_bytes s at (run test (drop at s)) ≡ parsed w next
      from h =
          rw (run_length test s at h.run)
          (some_bytes-parsed (length w) h.some ∙ ap₂ parsed (run-part test s at h.run) (sym h.run.spans.ends))
