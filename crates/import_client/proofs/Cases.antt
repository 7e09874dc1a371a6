-- The texts and slices written out: used, from the number and the output of a call.
use mathlib.Core.Path.{◌≡◌, refl, ap, ap₂, ◌∙◌}
use mathlib.Core.Bool.{false}
use mathlib.Core.List.{List, [], ◌∷◌}
use Prim.Native.Nat.{ℕ, ◌<◌}
use native.Mathlib.Omega.{arith}
use Rattle.lists.specs.Same.{every, same_list}
use Rattle.lists.specs.Tabulate.{tabulate}
use Rattle.complexes.specs.Cell.{without, precedes}
use Rattle.sheet_format.specs.Layout.{cell_bytes, section_bytes, sections_bytes, start, header_bytes, layout}
use Rattle.sheet_format.specs.Check.{some}
use Rattle.closures.specs.Insert.{insert, insert_all}
use Rattle.closures.specs.Closure.{member, repeats, of_dimension, faces_of, closed_section, closure}
use Rattle.mesh_format.specs.Mesh.{Mesh}
use Rattle.mesh_format.specs.Words.{value_from}
use Rattle.mesh_format.specs.Form.{joined, MeshText}
use Rattle.mesh_format.specs.Parse.{malformed, then, run, some_bytes, word, gap, line_end, digits_at, number, node, the_word, words, word_line, title_line, format_line, count_line, node_line, nodes_within, node_numbers, element_line, node_lines, element_lines, closing_within, closing_line, sections_within, sections, head_of, nodes_of, elements_of, mesh_of}
use Rattle.mesh_format.proofs.Accept.{mesh-iff, malformed-iff}
use Rattle.trials.specs.Trial.{done, number_told}
use Rattle.sweeps.specs.Cases.{lent}
use Rattle.imports.specs.Import.{nodes_of_kind, faulty, none_faulty, elements_right, complex_of, too_long, import_call}
use Rattle.imports.specs.Examples.{shown, line, text_of, hollow, filled_and_point, hollow_mesh, hollow-text, hollow-right, twice, faulty_then_malformed}
use Rattle.imports.proofs.ImportLaws.{mesh-cells, import-malformed, import-faulty, import-too-long, import-left}
use Rattle.import_client.specs.Used.{hollow_left, point_left, Used}

-- ---- the texts that are refused

not-mesh : mesh_of faulty_then_malformed ≡ malformed
unfolding joined shown line text_of same_list
    then run some_bytes word gap line_end digits_at number node the_word words word_line title_line format_line count_line node_line nodes_within node_numbers element_line
    node_lines element_lines closing_within closing_line sections_within sections head_of nodes_of elements_of mesh_of value_from
not-mesh = refl

abbrev twice_mesh : Mesh
twice_mesh = record { nodes = 0 ∷ 1 ∷ []; elements = record { kind = 1; nodes = 1 ∷ 1 ∷ [] } ∷ [] }

twice-text : MeshText twice_mesh twice
unfolding joined shown line text_of same_list
    then run some_bytes word gap line_end digits_at number node the_word words word_line title_line format_line count_line node_line nodes_within node_numbers element_line
    node_lines element_lines closing_within closing_line sections_within sections head_of nodes_of elements_of mesh_of value_from
twice-text = (mesh-iff twice_mesh twice).1 refl

twice-wrong : elements_right twice_mesh ≡ false
unfolding every member repeats nodes_of_kind faulty none_faulty
twice-wrong = refl

-- ---- the calls
module _ (limit : ℕ) where
  fourteen : (sheet : List ℕ) → number_told (import_call limit faulty_then_malformed sheet).answer ≡ 14
  fourteen sheet = (import-malformed limit faulty_then_malformed sheet).1 ((malformed-iff faulty_then_malformed).0 not-mesh)

  fifteen : (sheet : List ℕ) → number_told (import_call limit twice sheet).answer ≡ 15
  fifteen sheet = (import-faulty limit twice sheet twice_mesh twice-text).1 twice-wrong

  sixteen : number_told (import_call limit hollow (lent 33)).answer ≡ 16
  unfolding too_long some insert insert_all of_dimension faces_of closed_section closure tabulate without precedes layout header_bytes start sections_bytes section_bytes cell_bytes
  sixteen = (import-too-long limit hollow (lent 33) hollow_mesh hollow-text hollow-right (complex_of hollow_mesh.elements) (mesh-cells hollow_mesh hollow-right)).1 refl

  pub used : import_call limit hollow (lent 40) ≡ record { answer = done 34; output = hollow_left }
      → import_call limit filled_and_point (lent 42) ≡ record { answer = done 40; output = point_left } → {text before after : List ℕ} {n : ℕ}
      → n ≡ number_told (import_call limit text before).answer → after ≡ (import_call limit text before).output → Used text before n after
  used h p {text} {before} {after} {n} e o = record {
    written = done-with hollow (lent 40) 34 hollow_left h;
    swept = done-with filled_and_point (lent 42) 40 point_left p;
    malformed = λ t. left 14 (ap (λ (x : List ℕ). number_told (import_call limit x before).answer) t ∙ fourteen before) (omega arith);
    faulty = λ t. left 15 (ap (λ (x : List ℕ). number_told (import_call limit x before).answer) t ∙ fifteen before) (omega arith);
    short = λ t b. left 16 (ap₂ (λ (x y : List ℕ). number_told (import_call limit x y).answer) t b ∙ sixteen) (omega arith);
  }
    where
      done-with : (x y : List ℕ) (size : ℕ) (z : List ℕ) → import_call limit x y ≡ record { answer = done size; output = z } → text ≡ x → before ≡ y
          → (n ≡ 0) × (after ≡ z)
      done-with x y size z c t b = (
        e ∙ ap₂ (λ (u v : List ℕ). number_told (import_call limit u v).answer) t b ∙ ap (λ k. number_told k.answer) c,
        o ∙ ap₂ (λ (u v : List ℕ). (import_call limit u v).output) t b ∙ ap (λ k. k.output) c,
      )

      left : (k : ℕ) → number_told (import_call limit text before).answer ≡ k → 0 < k → (n ≡ k) × (after ≡ before)
      left k f l = (e ∙ f, o ∙ import-left limit text before (λ g. omega (arith, g, f)))
