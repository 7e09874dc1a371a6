-- `coordinate_lists::lists_through` meets its contract: each return is one case of the definition of the call (`HostListAnswers`), which on all chains
-- is that on the chains with coefficients.
use mathlib.Core.Path.{◌≡◌, refl, sym, subst, ap, ◌∙◌}
use mathlib.Core.Bool.{false}
use mathlib.Core.List.{List}
use Prim.Native.Nat.{ℕ, ◌*◌}
use native.Mathlib.Omega.{arith}
use lib.ListN.{length}
use Rattle.std.proofs.lemmas.Result.{err_from_is_err_and}
use Rattle.lists.specs.Splice.{splices}
use Rattle.trials.specs.Trial.{first_refusal}
use Rattle.sheet_format.specs.Check.{sections_of}
use Rattle.host_calls.specs.Host.{work_room, HostCalled, slots_in, host_call, lists_in}
use Rattle.host_calls.specs.Bytes.{chain_from}
use Rattle.requests.specs.Question as question
use Rattle.requests.specs.Question.{Question, asked}
use Rattle.requests.specs.Chains.{cycles_checks}
use Rattle.requests.specs.Chains.{nonempty}
use Rattle.requests.proofs.ListsLaws.{nonempty-size}
use Rattle.host_calls.specs.HostListsLaws.{nonempty-host-lists}
use Rattle.limits.specs.Limits.{host_limit, coefficient_limit}
use Rattle.calls.specs.declared.admission.Request.TheVariants.{Coordinates}
use Rattle.two_reductions.proofs.Sheet.{cells-of}
use Rattle.calls.proofs.Admitting.{Lengths, cells_of, Granted, admit-granted, regrant}
use Rattle.fildwuk.specs.HostAnswers.{HostAnswers}
use Rattle.fildwuk.specs.Lists.{list_bytes}
use Rattle.fildwuk.proofs.HostListAnswers.{host_lengths, few-cells, lists-refuse, length-refuses, cycles-refuse, lists-wide, can-list, lists-done}
use Rattle.fildwuk.proofs.coordinate_lists.lists_through.Goals as goal
use Rattle.fildwuk.proofs.coordinate_lists.lists_through.Goals.{Start, In_ok-n, After-nonempty-lists, In_ok-check_bytes, In_ok-reduced}

abbrev question_of : Start → Question
question_of s = asked s.args.sheet.now s.args.dimension

abbrev given : Start → Lengths
given s = host_lengths (question_of s) s.args.coordinates.now work_room

-- ---- the checks 1 to 9

-- the host's sheet has the host's limit
pub returns-in_err-n : goal.returns-in_err-n
returns-in_err-n c =
    let start = (goal.at.returns-in_err-n c).Start in
    let a = start.args in
    let x = err_from_is_err_and c.from_residual.result c.from_residual.ensures.1 in
    rw (x.1, x.2)
    (lists-refuse (question_of start) a.many a.chains.now a.coordinates.now refl _ (rw c.host.ensures at c.in_err-n.ensures))

module _ (c : In_ok-n) where
  abbrev entered : Start
  entered = (goal.at.In_ok-n c).Start

  abbrev q : Question
  q = question_of entered

  abbrev many : ℕ
  many = entered.args.many

  abbrev bytes : List ℕ
  bytes = entered.args.chains.now

  abbrev output : List ℕ
  output = entered.args.coordinates.now

  -- n_p
  abbrev cells : ℕ
  cells = cells_of q

  granted : Granted (given entered) (Coordinates many) c.in_ok-n.n
  granted =
      admit-granted (given entered) (Coordinates many) (rw c.host.ensures at c.in_ok-n.ensures) (omega arith)
      (record { small = λ i. (c.type_inv.sheet i).fits })

  cells_are : c.in_ok-n.n.cells ≡ cells
  cells_are = cells-of granted.cell-counts

-- ---- the chains

pub overflow_mul-many : goal.overflow_mul-many
overflow_mul-many c = omega (arith, (granted c).passed.output-slots, ap (λ (n : ℕ). many c * n) (cells_are c), (entered c).well_formed)

pub overflow_mul-many-2 : goal.overflow_mul-many-2
overflow_mul-many-2 c = omega (arith, (granted c).passed.output-slots, ap (λ (n : ℕ). many c * n) (cells_are c), (entered c).well_formed)

pub returns-then-chains-many : goal.returns-then-chains-many
returns-then-chains-many c =
    let k = (goal.at.returns-then-chains-many c).In_ok-n in
    length-refuses (q k) (many k) (bytes k) (output k) refl (granted k)
    (λ e. c.if-chains-many.true (e ∙ ap (λ (n : ℕ). 4 * (many k * n)) (sym (cells_are k))))

module _ (c : After-nonempty-lists) where
  abbrev known : In_ok-n
  known = (goal.at.After-nonempty-lists c).In_ok-n

  -- the chains that have coefficients
  abbrev lists : ℕ
  lists = c.nonempty-lists.result

  lists-are : lists ≡ nonempty (many known) (cells known)
  lists-are = c.nonempty-lists.ensures ∙ ap (nonempty (many known)) (cells_are known)

  same-slots : lists * cells known ≡ many known * cells known
  same-slots = ap (λ (n : ℕ). n * cells known) lists-are ∙ nonempty-size (many known) (cells known)

  size : length (bytes known) ≡ 4 * (lists * cells known)
  size = c.if-chains-many.false ∙ ap (λ (n : ℕ). 4 * (many known * n)) (cells_are known) ∙ ap (λ (n : ℕ). 4 * n) (sym same-slots)

  regranted : Granted (given (entered known)) (Coordinates lists) known.in_ok-n.n
  regranted = regrant (given (entered known)) same-slots (granted known)

  -- the call on them is the call on all
  on-lists : {r : ℕ} {left : List ℕ} → HostAnswers (host_call (q known) (lists_in (q known) lists (bytes known)) (output known)) r left
      → HostAnswers (host_call (q known) (lists_in (q known) (many known) (bytes known)) (output known)) r left
  unfolding question.cells
  on-lists {r} {left} h = subst (λ (x : HostCalled). HostAnswers x r left) (sym same) h
    where
      on : ℕ → HostCalled
      on n = host_call (q known) (lists_in (q known) n (bytes known)) (output known)

      same : on (many known) ≡ on lists
      same = nonempty-host-lists (q known) (many known) (bytes known) (output known) ∙ ap on (sym lists-are)

pub check_bytes-requires : goal.check_bytes-requires
check_bytes-requires c =
    let k = known c in let g = granted k in record {
      accepted = g.library;
      p_le_top = (
        g.passed.dimension,
        cells_are k,
        omega (arith, cells_are k, few-cells (q k) g.passed),
        size c ∙ ap (λ (n : ℕ). 4 * (lists c * n)) (sym (cells_are k)),
      );
    }

-- the chains that are checked, by the sections' count
by-sections : (m : After-nonempty-lists) → let k = known m in
    first_refusal (cycles_checks coefficient_limit (sections_of (q k).sheet) (q k).dimension (lists m) (chain_from (lists m * cells k) (bytes k)))
    ≡ first_refusal (cycles_checks coefficient_limit (sections_of (q k).sheet) (q k).dimension (lists m) (chain_from (lists m * k.in_ok-n.n.cells) (bytes k)))
by-sections m =
    let k = known m in
    ap (λ (n : ℕ). first_refusal (cycles_checks coefficient_limit (sections_of (q k).sheet) (q k).dimension (lists m) (chain_from (lists m * n) (bytes k)))) (sym (cells_are k))

pub returns-in_err-check_bytes : goal.returns-in_err-check_bytes
returns-in_err-check_bytes c =
    let m = (goal.at.returns-in_err-check_bytes c).After-nonempty-lists in let k = known m in
    let x = err_from_is_err_and c.from_residual-in_err-check_bytes.result c.from_residual-in_err-check_bytes.ensures.1 in
    rw (x.1, x.2)
    (on-lists m
    (cycles-refuse (q k) (lists m) (bytes k) (output k) refl (regranted m) (size m) _ (by-sections m ∙ c.in_err-check_bytes.ensures)))

-- ---- the reductions

module _ (c : In_ok-check_bytes) where
  abbrev counted : After-nonempty-lists
  counted = (goal.at.In_ok-check_bytes c).After-nonempty-lists

  passed : let k = known counted in
      first_refusal (cycles_checks coefficient_limit (sections_of (q k).sheet) (q k).dimension (lists counted) (chain_from (lists counted * cells k) (bytes k))) ≡ 0
  passed = by-sections counted ∙ c.in_ok-check_bytes.ensures

pub reduce_twice-requires : goal.reduce_twice-requires
reduce_twice-requires c =
    let g = granted (known (counted (goal.at.reduce_twice-requires c).In_ok-check_bytes)) in record { accepted = (g.library, g.passed.dimension); p_in_bounds = g.passed.work-slots; cell_counts_read = g.cell-counts }

pub returns-in_err-reduced : goal.returns-in_err-reduced
returns-in_err-reduced c =
    let t = (goal.at.returns-in_err-reduced c).In_ok-check_bytes in
    let m = counted t in let k = known m in
    let h = c.in_err-reduced.ensures in
    let x = err_from_is_err_and c.from_residual-in_err-reduced.result c.from_residual-in_err-reduced.ensures.1 in
    rw (x.1, x.2, h.1.number)
    (on-lists m (lists-wide (q k) (lists m) (bytes k) (output k) refl (regranted m) (size m) (passed t) h.0))

-- ---- the coordinates

pub write_bytes-requires : goal.write_bytes-requires
write_bytes-requires c =
    let d = (goal.at.write_bytes-requires c).In_ok-reduced in
    let t = (goal.at.In_ok-reduced d).In_ok-check_bytes in
    let m = counted t in let k = known m in
    rw (cells_are k) (can-list (q k) (lists m) (bytes k) (output k) refl (regranted m) (size m) (passed t) d.in_ok-reduced.ensures)

pub returns : goal.returns
returns c =
    let d = (goal.at.returns c).In_ok-reduced in
    let t = (goal.at.In_ok-reduced d).In_ok-check_bytes in
    let m = counted t in let k = known m in
    on-lists m
    (lists-done (q k) (lists m) (bytes k) (output k) refl (regranted m) (size m) (passed t) d.in_ok-reduced.ensures
    (c.write_bytes.ensures
    ∙ ap (λ (n : ℕ). splices (8 * n) (list_bytes d.in_ok-reduced.reduced d.reduce_twice.new.w n (lists m) (bytes k)) (lists m) (output k))
    (cells_are k)))
