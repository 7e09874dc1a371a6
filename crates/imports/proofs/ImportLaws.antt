-- Laws of the import call.
--     import-is, import-not                               the call on a text that tells a mesh, and on one that is not of the form
--     import-malformed, import-faulty, import-too-long    when each number is told
--     import-done                                         done whenever none applies, and what is then answered and written
--     import-left                                         a refusal leaves the slice alone
use mathlib.Core.Path.{◌≡◌, refl, sym, ap, ◌∙◌, subst}
use mathlib.Core.Logic.{◌↔◌, ◌≢◌}
use mathlib.Core.Bool.{Bool, true, false, not, cond, true≢false, false≢true}
use mathlib.Core.List.{List, ◌++◌}
use Prim.Native.Nat.{ℕ}
use native.Mathlib.Omega.{arith}
use lib.ListN.{length, drop}
use Rattle.complexes.specs.Complex.{Sections}
use Rattle.sweeps.specs.Sweep.{swept_sheet}
use Rattle.trials.specs.Trial.{first_refusal}
use Rattle.closures.specs.Closure.{element_top, member}
use Rattle.closures.specs.Form.{IsClosure}
use Rattle.mesh_format.specs.Mesh.{Mesh}
use Rattle.mesh_format.specs.Form.{MeshText}
use Rattle.mesh_format.specs.Parse.{Parsed, malformed, parsed, mesh_of}
use Rattle.trials.specs.Trial.{done, refused, number_told}
use Rattle.trials.specs.Write.{answer_with}
use Rattle.trials.proofs.WriteLaws.{answer-number, answer-left}
use Rattle.imports.specs.Import.{elements_right, node_lists, complex_of, mesh_in, is_malformed, too_long, mesh_checks, import_call}
use Rattle.mesh_format.proofs.Accept.{mesh-iff, malformed-iff, mesh_of-ends}
use Rattle.closures.proofs.ClosureLaws.{closure-is, closure-unique}
use Rattle.imports.proofs.ElementLaws.{right-few}

-- ---- the number told

-- 15 and 16, where the elements are right or not and the sheet too long or not
abbrev pub told : Bool → Bool → ℕ
told right long = cond (not right) 15 (cond long 16 0)

told-14 : (right long : Bool) → told right long ≢ 14
told-14 true true e = omega (arith, e)
told-14 true false e = omega (arith, e)
told-14 false long e = omega (arith, e)

told-15 : (right long : Bool) → (told right long ≡ 15) ↔ (right ≡ false)
told-15 true true = (λ e. absurd (omega (arith, e)), λ e. absurd (true≢false e))
told-15 true false = (λ e. absurd (omega (arith, e)), λ e. absurd (true≢false e))
told-15 false long = (λ e. refl, λ e. refl)

told-16 : (right long : Bool) → right ≡ true → (told right long ≡ 16) ↔ (long ≡ true)
told-16 true true r = (λ e. refl, λ e. refl)
told-16 true false r = (λ e. absurd (omega (arith, e)), λ e. absurd (false≢true e))
told-16 false long r = absurd (false≢true r)

told-0 : (right long : Bool) → (told right long ≡ 0) → (right ≡ true) × (long ≡ false)
told-0 true true e = absurd (omega (arith, e))
told-0 true false e = (refl, refl)
told-0 false long e = absurd (omega (arith, e))

pub mesh-cells : (m : Mesh) → elements_right m ≡ true → IsClosure element_top (node_lists m.elements) (complex_of m.elements)
mesh-cells m r = closure-is element_top (node_lists m.elements) (right-few (λ v. member v m.nodes) m.elements r)

module _ (limit : ℕ) (text sheet : List ℕ) where
  abbrev number : ℕ
  number = first_refusal (mesh_checks limit (length sheet) (mesh_of text))

  number_is : number_told (import_call limit text sheet).answer ≡ number
  unfolding import_call
  number_is = answer-number number (swept_sheet (complex_of (mesh_in (mesh_of text)).elements)) sheet

  abbrev long : Mesh → Bool
  long m = too_long limit (length sheet) (complex_of m.elements)

  number-malformed : mesh_of text ≡ malformed → number ≡ 14
  unfolding mesh_checks is_malformed
  number-malformed e = rw e refl

  number-mesh : (m : Mesh) (at : ℕ) → mesh_of text ≡ parsed m at → number ≡ told (elements_right m) (long m)
  unfolding mesh_checks is_malformed mesh_in
  number-mesh m at e = rw e refl

  -- what the call does on a text that tells a mesh, and on one that is not of the form
  pub import-is : (m : Mesh) (at : ℕ) → mesh_of text ≡ parsed m at
      → import_call limit text sheet ≡ answer_with (told (elements_right m) (long m)) (swept_sheet (complex_of m.elements)) sheet
  unfolding import_call mesh_checks is_malformed mesh_in
  import-is m at e = rw e refl

  pub import-not : mesh_of text ≡ malformed → import_call limit text sheet ≡ record { answer = refused 14; output = sheet }
  unfolding import_call mesh_checks is_malformed answer_with
  import-not e = rw e refl

  import-parsed : (m : Mesh) → MeshText m text → number_told (import_call limit text sheet).answer ≡ told (elements_right m) (long m)
  import-parsed m t = number_is ∙ number-mesh m (length text) ((mesh-iff m text).0 t)

  pub import-malformed : (number_told (import_call limit text sheet).answer ≡ 14) ↔ ((m : Mesh) → MeshText m text → ⊥)
  import-malformed = (
    λ e. (malformed-iff text).0 (only (sym number_is ∙ e) (mesh_of text) refl),
    λ h. number_is ∙ number-malformed ((malformed-iff text).1 h),
  )
    where
      only : number ≡ 14 → (r : Parsed Mesh) → mesh_of text ≡ r → mesh_of text ≡ malformed
      only n malformed e = e
      only n (parsed m at) e = absurd (told-14 (elements_right m) (long m) (sym (number-mesh m at e) ∙ n))

  pub import-faulty : (m : Mesh) → MeshText m text → (number_told (import_call limit text sheet).answer ≡ 15) ↔ (elements_right m ≡ false)
  import-faulty m t = rw (import-parsed m t) (told-15 (elements_right m) (long m))

  -- ---- a text whose elements are right
  module _ (m : Mesh) (t : MeshText m text) (r : elements_right m ≡ true) where
    module _ (K : Sections) (is : IsClosure element_top (node_lists m.elements) K) where
      same : complex_of m.elements ≡ K
      same = closure-unique (mesh-cells m r) is

      pub import-too-long : (number_told (import_call limit text sheet).answer ≡ 16) ↔ (too_long limit (length sheet) K ≡ true)
      import-too-long =
          subst (λ (L : Sections). (number_told (import_call limit text sheet).answer ≡ 16) ↔ (too_long limit (length sheet) L ≡ true)) same
          (rw (import-parsed m t) (told-16 (elements_right m) (long m) r))

      pub import-done : too_long limit (length sheet) K ≡ false
          → import_call limit text sheet ≡ record { answer = done (length (swept_sheet K)); output = swept_sheet K ++ drop (length (swept_sheet K)) sheet }
      unfolding import_call answer_with mesh_in
      import-done short =
          rw (sym same)
          (rw (number-mesh m (length text) ((mesh-iff m text).0 t), (mesh-iff m text).0 t, r, subst (λ (L : Sections). too_long limit (length sheet) L ≡ false) (sym same) short) refl)

  -- ---- what is left

  pub import-left : number_told (import_call limit text sheet).answer ≢ 0 → (import_call limit text sheet).output ≡ sheet
  unfolding import_call
  import-left = answer-left number (swept_sheet (complex_of (mesh_in (mesh_of text)).elements)) sheet

  -- ---- where it is done

  -- the text tells a mesh whose elements are right and whose sheet is not too long
  pub record Done : Type 0 where
    pub mesh : Mesh
    pub is-text : MeshText mesh text
    pub is_right : elements_right mesh ≡ true
    pub fits : too_long limit (length sheet) (complex_of mesh.elements) ≡ false

  pub import-told : number_told (import_call limit text sheet).answer ≡ 0 → Done
  import-told z = pick (mesh_of text) refl
    where
      pick : (r : Parsed Mesh) → mesh_of text ≡ r → Done
      pick malformed e = absurd (omega (arith, number_is, z, number-malformed e))
      pick (parsed m at) e =
          let passed : (elements_right m ≡ true) × (long m ≡ false) = told-0 (elements_right m) (long m) (sym (number-mesh m at e) ∙ (sym number_is ∙ z)) in
          record {
            mesh = m;
            is-text = (mesh-iff m text).1 (e ∙ ap (parsed m) (mesh_of-ends text m at e));
            is_right = passed.0;
            fits = passed.1;
          }
