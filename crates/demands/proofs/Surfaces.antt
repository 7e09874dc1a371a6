-- The claims on surfaces.
use mathlib.Core.Path.{◌≡◌, refl, sym, ◌∙◌, ap}
use mathlib.Core.Bool.{true}
use mathlib.Core.Logic.{◌↔◌, ◌≢◌, ◌⊎◌, inl, inr}
use mathlib.Core.List.{List}
use Prim.Native.Nat.{ℕ, zero, suc, ◌+◌, ◌<◌}
use native.Mathlib.Decide.{ℕ_discrete}
use native.Mathlib.Omega.{arith}
use lib.ListN.{length, replicate, length-replicate}
use lib.IntN.{ℤ, pos, nat_abs}
use Rattle.integers.specs.Slot.{slot}
use Rattle.integers.proofs.Order.{nat_abs-zero}
use Rattle.matrices.specs.Vector.{apply}
use Rattle.limits.specs.Limits.{host_limit, surface_coefficient_limit}
use Rattle.trials.specs.Trial.{first_refusal, number_told, Called}
use Rattle.complexes.specs.Boundary.{boundary}
use Rattle.sheet_format.specs.Sheet.{Bytes}
use Rattle.homology_groups.specs.Chain.{Chain, Same}
use Rattle.homology_groups.proofs.ChainLaws.{same-trans, same-apply, boundary-same}
use Rattle.reports.specs.Reductions.{second_columns_only}
use Rattle.reports.specs.Report.{Counts, free_rank, torsion_count}
use Rattle.reports.specs.Surface.{surface_list}
use Rattle.requests.specs.Question.{Question, cells, cell_count, next_count}
use Rattle.requests.specs.Call.{surface, work_slots_for, early_checks, call}
use Rattle.requests.proofs.CallLaws.{early-iff}
use Rattle.host_calls.specs.Bytes.{coefficient_in, number_at, chain_from}
use Rattle.host_calls.specs.Host.{slots_in, host_call}
use Rattle.host_calls.proofs.HostChainsLaws.{given-coefficient}
use Rattle.answers.specs.Homology.{IsBoundary}
use Rattle.answers.specs.Outcome as outcome
use Rattle.answers.specs.Outcome.{Outcome}
use Rattle.answers.proofs.ReportRight.{has-counts, counts-unique}
use Rattle.answers.proofs.CoordinatesRight.{coordinates-zero}
use Rattle.answers.proofs.ChainChecks.{chain-passes}
use Rattle.answers.proofs.Behind.{Behind, same-behind}
use Rattle.answers.proofs.EndLaws.{surface-fills}
use Rattle.answers.proofs.SurfaceRight.{surface-chain}
use Rattle.answers.proofs.CallRight.{Answered, done-number, call-outcome, answered, list-reads}
use Rattle.answers.proofs.HostRight.{host-answered, host-reads, carries}
use Rattle.demands.specs.Surfaces as claims
use Rattle.demands.specs.Surfaces.{SurfaceOf, SurfacesBound, OneSurface, SurfaceTold, SomeNonzero, SurfacesBeside}
use Rattle.demands.proofs.Behind.{start, CoordinatesBehind, coordinates-behind}

-- ---- the boundary of a surface, and that there is one

-- the two reductions, the chain as it is given, and the surface
record SurfaceBehind (q : Question) (z c : Chain) : Type 0 where
  two : Behind q (second_columns_only true)
  chain : List ℤ
  agrees : (i : ℕ) → i < cell_count q → slot chain i ≡ z i
  reads : (j : ℕ) → j < next_count q → c j ≡ slot (surface_list (cell_count q) (next_count q) two.rank two.state chain) j
  fills : Same (cell_count q) (apply (next_count q) (boundary (cells q) (suc q.dimension)) c) (slot chain)

behind : (q : Question) (z : List ℤ) (z' c : Chain) {limit output work : ℕ} (A : Answered limit q (surface z) output work)
    → ((i : ℕ) → i < cell_count q → slot z i ≡ z' i)
    → ((j : ℕ) → j < next_count q → c j ≡ slot (surface_list (cell_count q) (next_count q) A.reductions-behind.rank A.reductions-behind.state z) j)
    → SurfaceBehind q z' c
behind q z z' c A agrees reads = record {
  two = A.reductions-behind;
  chain = z;
  agrees = agrees;
  reads = reads;
  fills =
      same-trans (same-apply (cell_count q) (boundary (cells q) (suc q.dimension)) (record { at = reads }))
      (surface-fills q z A.request-passed A.reductions-behind A.ends);
}

surface-behind : (q : Question) → Bytes q.sheet → {z c : Chain} → SurfaceOf q z c → SurfaceBehind q z c
surface-behind q bytes (claims.SurfaceOf.by-library limit z output work counts e) =
    behind q z (slot z) (slot (call limit q (surface z) output work).output) (answered limit q (surface z) output work bytes (done-number e)) (λ i l. refl)
    (λ j l.
    ap (slot (call limit q (surface z) output work).output) (sym (start (next_count q) j))
    ∙ list-reads limit q (surface z) output work bytes (done-number e) 0 (omega arith) j l)
surface-behind q bytes (claims.SurfaceOf.by-host chain output e) =
    let z = chain_from (cell_count q) chain in
    let A = host-answered q (surface z) output bytes e in
    behind q z (coefficient_in chain) (number_at (host_call q (surface z) output).output) A
    (given-coefficient (cell_count q) chain (chain-passes surface_coefficient_limit (cells q) q.dimension z A.request-passed).size)
    (λ j m. ap (number_at (host_call q (surface z) output).output) (sym (start (next_count q) j)) ∙ host-reads q (surface z) output bytes e 0 (omega arith) j m)

pub surfaces_bound : SurfacesBound
surfaces_bound q bytes z c of i l = let B = surface-behind q bytes of in B.fills.at i l ∙ B.agrees i l

pub one_surface : OneSurface
one_surface q bytes y z c d of-y of-z same j l =
    let B = surface-behind q bytes of-y in
    let D = surface-behind q bytes of-z in
    let n = cell_count q in
    let reads = same-behind (λ s r x. (j : ℕ) → j < next_count q → d j ≡ slot (surface_list n (next_count q) r x D.chain) j) D.two B.two D.reads in
    let chains : (i : ℕ) → i < n → slot B.chain i ≡ slot D.chain i = λ i m. B.agrees i m ∙ same i m ∙ sym (D.agrees i m) in
    B.reads j l ∙ surface-chain n (next_count q) B.two.rank B.two.state B.chain D.chain chains j l ∙ sym (reads j l)

-- ---- beside the coordinates

-- what a surface call tells that is done or refused 17
record Told (q : Question) (z : List ℤ) (k : ℕ) : Type 0 where
  size : length z ≡ cell_count q
  bounds : k ≡ 0 → IsBoundary (cells q) q.dimension (slot z)
  nothing : k ≡ 17 → IsBoundary (cells q) q.dimension (slot z) → ⊥

library-told : (limit : ℕ) (q : Question) (z output work : List ℤ) → Bytes q.sheet → (k : ℕ) → number_told (call limit q (surface z) output work).answer ≡ k
    → (k ≡ 0) ⊎ (k ≡ 17) → Told q z k
library-told limit q z output work bytes k is either = of (call-outcome limit q (surface z) output work bytes)
  where
    number_of : Called Counts ℤ → ℕ
    number_of called = number_told called.answer

    size_of : first_refusal (early_checks limit q (surface z) (length output) (length work)) ≡ 0 → length z ≡ cell_count q
    size_of none =
        (chain-passes surface_coefficient_limit (cells q) q.dimension z ((early-iff limit q (surface z) (length output) (length work)).0 none).1).size

    late : (n : ℕ) → n ≢ 0 → n ≢ 17 → k ≡ n → (k ≡ 0) ⊎ (k ≡ 17) → Told q z k
    late n d b e (inl f) = absurd (d (sym e ∙ f))
    late n d b e (inr f) = absurd (b (sym e ∙ f))

    of : Outcome limit q (surface z) output work (call limit q (surface z) output work) → Told q z k
    of (outcome.Outcome.refused-early n nonzero narrow bounded told e) = late n nonzero bounded (sym is ∙ ap number_of e) either
    of (outcome.Outcome.is-too_wide none wide e) = late 13 (λ f. absurd (omega arith)) (λ f. absurd (omega arith)) (sym is ∙ ap number_of e) either
    of (outcome.Outcome.bounds-nothing none narrow nothing e) =
        record { size = size_of none; bounds = λ f. absurd (omega (arith, f, is, ap number_of e)); nothing = λ f. nothing }
    of (outcome.Outcome.is-done none narrow bounds s r x ends e) =
        record { size = size_of none; bounds = λ f. bounds; nothing = λ f. absurd (omega (arith, f, is, ap number_of e)) }

-- the chain as it is given and as a caller reads it
record ToldOf (q : Question) (z : Chain) (k : ℕ) : Type 0 where
  chain : List ℤ
  agrees : (i : ℕ) → i < cell_count q → slot chain i ≡ z i
  told : Told q chain k

surface-told : (q : Question) → Bytes q.sheet → (z : Chain) (k : ℕ) → SurfaceTold q z k → (k ≡ 0) ⊎ (k ≡ 17) → ToldOf q z k
surface-told q bytes z' k (claims.SurfaceTold.by-library limit z output work) either =
    record { chain = z; agrees = λ i l. refl; told = library-told limit q z output work bytes k refl either }
surface-told q bytes z' k (claims.SurfaceTold.by-host chain output) either =
    let z = chain_from (cell_count q) chain in
    let slots = replicate (slots_in output) (pos 0) in
    let space = work_slots_for (second_columns_only true) (cells q) q.dimension in
    let work = replicate space (pos 0) in
    let beside = carries q (surface z) output bytes slots work (length-replicate (slots_in output) (pos 0)) (omega (arith, length-replicate space (pos 0))) in
    let told = library-told host_limit q z slots work bytes k (sym beside.number_is) either in
    record { chain = z; agrees = given-coefficient (cell_count q) chain told.size; told = told }

-- a list that is not all zeros has a number that is not 0
some-nonzero : (k : ℕ) (c : ℕ → ℤ) → (((j : ℕ) → j < k → c j ≡ pos 0) → ⊥) → SomeNonzero k c
some-nonzero zero c d = absurd (d (λ j l. absurd (omega arith)))
some-nonzero (suc k) c d = go (ℕ_discrete (nat_abs (c k)) 0) (some-nonzero k c)
  where
    last : nat_abs (c k) ≡ 0 → (j : ℕ) → j < suc k → Dec (j ≡ k) → ((j : ℕ) → j < k → c j ≡ pos 0) → c j ≡ pos 0
    last e j l (yes f) all = ap c f ∙ nat_abs-zero (c k) e
    last e j l (no f) all = all j (omega arith)

    go : Dec (nat_abs (c k) ≡ 0) → ((((j : ℕ) → j < k → c j ≡ pos 0) → ⊥) → SomeNonzero k c) → SomeNonzero (suc k) c
    go (no n) earlier = record { place = k; within = omega arith; nonzero = λ e. n (ap nat_abs e) }
    go (yes e) earlier =
        let before = earlier (λ all. d (λ j l. last e j l (ℕ_discrete j k) all)) in
        record { place = before.place; within = omega (arith, before.within); nonzero = before.nonzero }

pub surfaces_beside : SurfacesBeside
surfaces_beside q bytes y z same c of-y k told either f t counts = (
  λ e. some-nonzero (t + f) c (λ all. T.told.nothing e (iff.0 all)),
  λ n. pick n either,
)
  where
    B : CoordinatesBehind q y c
    B = coordinates-behind q bytes of-y

    T : ToldOf q z k
    T = surface-told q bytes z k told either

    own : (f ≡ free_rank B.two.rows B.two.rank) × (t ≡ torsion_count B.two.rank B.two.state)
    own = counts-unique counts (has-counts B.two.right)

    zero-iff : ((j : ℕ) → j < torsion_count B.two.rank B.two.state + free_rank B.two.rows B.two.rank → c j ≡ pos 0) ↔ IsBoundary (cells q) q.dimension (slot B.chain)
    zero-iff = coordinates-zero B.two.right B.reads B.cycle

    -- the chain that the coordinates belong to is the one that the surface call was given
    agree : (i : ℕ) → i < cell_count q → slot B.chain i ≡ slot T.chain i
    agree i l = B.agrees i l ∙ same i l ∙ sym (T.agrees i l)

    iff : ((j : ℕ) → j < t + f → c j ≡ pos 0) ↔ IsBoundary (cells q) q.dimension (slot T.chain)
    iff = (
      λ all. boundary-same (record { at = agree }) (zero-iff.0 (λ j l. all j (omega (arith, own.0, own.1)))),
      λ b j l. zero-iff.1 (boundary-same (record { at = λ i m. sym (agree i m) }) b) j (omega (arith, own.0, own.1)),
    )

    pick : SomeNonzero (t + f) c → (k ≡ 0) ⊎ (k ≡ 17) → k ≡ 17
    pick n (inl e) = absurd (n.nonzero (iff.1 (T.told.bounds e) n.place n.within))
    pick n (inr e) = e
