-- `coordinates::coordinate_lists` meets its contract: each return is one case of the definition of the call (`Admitting`, `ListAnswers`), which on
-- all chains is that on the chains with coefficients.
use mathlib.Core.Path.{◌≡◌, sym, subst, ap, ◌∙◌}
use mathlib.Core.List.{List}
use Prim.Native.Nat.{ℕ, ◌*◌}
use native.Mathlib.Nat.{le_refl}
use native.Mathlib.Omega.{arith}
use lib.IntN.{ℤ}
use lib.ListN.{length}
use Rattle.std.specs.Prelude.{Result}
use Rattle.std.proofs.lemmas.Result.{err_from_is_err_and}
use Rattle.lists.specs.Splice.{splices}
use Rattle.complexes.specs.Complex.{count}
use Rattle.trials.specs.Trial.{first_refusal, Called}
use Rattle.reports.specs.Report as reports
use Rattle.sheet_format.specs.Check.{sections_of}
use Rattle.reduction_steps.proofs.PivotLaws.{pivot_rule-is-rule}
use Rattle.requests.specs.Question.{asked}
use Rattle.requests.specs.Question as question
use Rattle.requests.specs.Chains.{chain_at, cycles_checks}
use Rattle.requests.specs.Chains.{nonempty}
use Rattle.requests.proofs.ListsLaws.{nonempty-size, nonempty-lists}
use Rattle.limits.specs.Limits.{library_limit, coefficient_limit}
use Rattle.refusal.specs.declared.Refusal.{Refusal}
use Rattle.writers.specs.Written.{coordinates_of}
use Rattle.writers.specs.declared.counts.Counts.{Counts}
use Rattle.calls.specs.CallAnswers.{CallAnswers}
use Rattle.calls.specs.declared.admission.Request.TheVariants.{Coordinates}
use Rattle.two_reductions.proofs.Sheet.{cells-of}
use Rattle.calls.proofs.Admitting.{Lent, lengths, Granted, admit-granted, regrant}
use Rattle.calls.proofs.Writing.{can-count}
use Rattle.calls.proofs.ListAnswers.{lists_called, lists-refuse, length-refuses, cycles-refuse, lists-wide, can-list, lists-done}
use Rattle.calls.proofs.coordinates.coordinate_lists.Goals as goal
use Rattle.calls.proofs.coordinates.coordinate_lists.Goals.{Start, In_ok-n, After-nonempty-lists, In_ok-check_chains, In_ok-reduced}

abbrev lent : Start → Lent
lent s =
    let a = s.args in
    record { limit = library_limit; question = asked a.s.now a.dimension; output = a.coordinates.now; work = a.work.now }

-- ---- the checks 1 to 9

-- the library's sheet has the library's limit
pub returns-in_err-n : goal.returns-in_err-n
returns-in_err-n c =
    let start = (goal.at.returns-in_err-n c).Start in
    let e = err_from_is_err_and c.from_residual.result c.from_residual.ensures.1 in
    rw (e.1, e.2) (lists-refuse (lent start) start.args.many start.args.chains.now _ (rw c.library.ensures at c.in_err-n.ensures))

module _ (c : In_ok-n) where
  abbrev entered : Start
  entered = (goal.at.In_ok-n c).Start

  abbrev many : ℕ
  many = entered.args.many

  abbrev chains-of : List ℤ
  chains-of = entered.args.chains.now

  -- n_p
  abbrev cells : ℕ
  cells = count (sections_of entered.args.s.now) entered.args.dimension

  granted : Granted (lengths (lent entered)) (Coordinates many) c.in_ok-n.n
  granted =
      admit-granted (lengths (lent entered)) (Coordinates many) (rw c.library.ensures at c.in_ok-n.ensures) (le_refl library_limit)
      (record { small = λ i. (c.type_inv.s i).fits })

  cells_are : c.in_ok-n.n.cells ≡ cells
  cells_are = cells-of granted.cell-counts

-- ---- the chains

pub overflow_mul-many : goal.overflow_mul-many
overflow_mul-many c = omega (arith, (granted c).passed.output-slots, ap (λ (n : ℕ). many c * n) (cells_are c), (entered c).well_formed)

pub returns-then-chains-many : goal.returns-then-chains-many
returns-then-chains-many c =
    let k = (goal.at.returns-then-chains-many c).In_ok-n in
    length-refuses (lent (entered k)) (many k) (chains-of k) (granted k) (λ e. c.if-chains-many.true (e ∙ ap (λ (n : ℕ). many k * n) (sym (cells_are k))))

module _ (c : After-nonempty-lists) where
  abbrev known : In_ok-n
  known = (goal.at.After-nonempty-lists c).In_ok-n

  -- the chains that have coefficients
  abbrev lists : ℕ
  lists = c.nonempty-lists.result

  lists-are : lists ≡ nonempty (many known) (cells known)
  lists-are = c.nonempty-lists.ensures ∙ ap (nonempty (many known)) (cells_are known)

  same-slots : lists * cells known ≡ many known * cells known
  same-slots = ap (λ (n : ℕ). n * cells known) lists-are ∙ nonempty-size (many known) (cells known)

  size : length (chains-of known) ≡ lists * cells known
  size = c.if-chains-many.false ∙ ap (λ (n : ℕ). many known * n) (cells_are known) ∙ sym same-slots

  regranted : Granted (lengths (lent (entered known))) (Coordinates lists) known.in_ok-n.n
  regranted = regrant (lengths (lent (entered known))) same-slots (granted known)

  -- the call on them is the call on all
  on-lists : {r : Result Counts Refusal} {left work-left : List ℤ} → CallAnswers (lists_called (lent (entered known)) lists (chains-of known)) r left work-left
      → CallAnswers (lists_called (lent (entered known)) (many known) (chains-of known)) r left work-left
  unfolding question.cells
  on-lists {r} {left} {work-left} h = subst (λ (x : Called reports.Counts ℤ). CallAnswers x r left work-left) (sym same) h
    where
      l : Lent
      l = lent (entered known)

      same : lists_called l (many known) (chains-of known) ≡ lists_called l lists (chains-of known)
      same = nonempty-lists library_limit l.question (many known) (chains-of known) l.output l.work ∙ ap (λ (n : ℕ). lists_called l n (chains-of known)) (sym lists-are)

pub check_chains-requires : goal.check_chains-requires
check_chains-requires c =
    let g = granted (known c) in
    record { accepted = g.library; p_le_top = (g.passed.dimension, cells_are (known c), size c ∙ ap (λ (n : ℕ). lists c * n) (sym (cells_are (known c)))) }

pub returns-in_err-check_chains : goal.returns-in_err-check_chains
returns-in_err-check_chains c =
    let m = (goal.at.returns-in_err-check_chains c).After-nonempty-lists in
    let k = known m in
    let e = err_from_is_err_and c.from_residual-in_err-check_chains.result c.from_residual-in_err-check_chains.ensures.1 in
    rw (e.1, e.2) (on-lists m (cycles-refuse (lent (entered k)) (lists m) (chains-of k) (regranted m) (size m) _ c.in_err-check_chains.ensures))

-- ---- the reductions

module _ (c : In_ok-check_chains) where
  abbrev counted : After-nonempty-lists
  counted = (goal.at.In_ok-check_chains c).After-nonempty-lists

  abbrev given : Lent
  given = lent (entered (known counted))

  passed : first_refusal (cycles_checks coefficient_limit (sections_of given.question.sheet) given.question.dimension (lists counted) (chains-of (known counted))) ≡ 0
  passed = c.in_ok-check_chains.ensures

pub reduce_twice-requires : goal.reduce_twice-requires
reduce_twice-requires c =
    let g = granted (known (counted (goal.at.reduce_twice-requires c).In_ok-check_chains)) in record { accepted = (g.library, g.passed.dimension); p_in_bounds = g.passed.work-slots; cell_counts_read = g.cell-counts }

pub returns-in_err-reduced : goal.returns-in_err-reduced
returns-in_err-reduced c =
    let t = (goal.at.returns-in_err-reduced c).In_ok-check_chains in
    let m = counted t in
    let e = err_from_is_err_and c.from_residual-in_err-reduced.result c.from_residual-in_err-reduced.ensures.1 in
    rw (e.1, e.2) (on-lists m (lists-wide (given t) (lists m) (chains-of (known m)) (regranted m) (size m) (passed t) c.in_err-reduced.ensures))

-- ---- the coordinates

module _ (c : In_ok-reduced) where
  abbrev checked : In_ok-check_chains
  checked = (goal.at.In_ok-reduced c).In_ok-check_chains

pub write_lists-requires : goal.write_lists-requires
write_lists-requires c =
    let k = (goal.at.write_lists-requires c).In_ok-reduced in
    let t = checked k in
    let m = counted t in
    rw (cells_are (known m)) (can-list (given t) (lists m) (chains-of (known m)) (regranted m) (size m) (passed t) k.in_ok-reduced.ensures)

pub counts-counts-requires : goal.counts-counts-requires
counts-counts-requires c =
    let k = (goal.at.counts-counts-requires c).In_ok-reduced in
    let g = granted (known (counted (checked k))) in
    can-count pivot_rule-is-rule g.complex g.passed.work-slots k.in_ok-reduced.ensures

pub returns : goal.returns
returns c =
    let k = (goal.at.returns c).In_ok-reduced in
    let t = checked k in
    let m = counted t in
    on-lists m
    (lists-done (given t) (lists m) (chains-of (known m)) (regranted m) (size m) (passed t) k.in_ok-reduced.ensures c.counts-counts.ensures
    (c.write_lists.ensures
    ∙ ap (λ (n : ℕ). splices n (λ i. coordinates_of k.in_ok-reduced.reduced k.reduce_twice.new.w (chain_at n (chains-of (known m)) i)) (lists m) (given t).output) (cells_are (known m)))
    c.clear.ensures)
