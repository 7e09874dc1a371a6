-- One line of the head behind the format: it opens the nodes or a section to be passed over, or the text is not of the form.
--     sections-none                      no line of one word
--     sections-nodes, sections-other     the line `$Nodes`, and a line that opens no section
--     sections-stuck, sections-passed    a section that is not closed, and one that is
--     name-is                            its name
use mathlib.Core.Path.{◌≡◌, refl, ◌∙◌}
use mathlib.Core.Bool.{true, false}
use mathlib.Core.List.{List}
use Prim.Native.Nat.{ℕ, suc, ◌-◌}
use native.Mathlib.Omega.{arith}
use lib.ListN.{length, take, drop, length-drop}
use lib.Seq.{take_all}
use Rattle.mesh_format.specs.Words.{nodes_name, opening, ending}
use Rattle.mesh_format.specs.Parse.{malformed, parsed, same_word, word_line, closing_line, opens_section, sections}
use Rattle.mesh_format.proofs.ReadLaws.{Within}
use Rattle.mesh_format.proofs.StepLaws.{word_line-within, closing_line-within, sections-step}
use Rattle.mesh_words.proofs.Steps.{fails, goes}

pub name-is : (w : List ℕ) → take (length w - 1) (drop 1 w) ≡ drop 1 w
name-is w = take_all (length w - 1) (drop 1 w) (omega (arith, length-drop 1 w))

module _ (s : List ℕ) (at : ℕ) where
  pub sections-none : word_line s at ≡ malformed → sections s at ≡ malformed
  sections-none e = sections-step s at ∙ fails _ e

  module _ {w : List ℕ} {next : ℕ} (line : word_line s at ≡ parsed w next) where
    pub sections-nodes : true ≡ same_word w (opening nodes_name) → sections s at ≡ parsed tt next
    sections-nodes e = sections-step s at ∙ goes _ line (rw (← e))

    module _ (no : false ≡ same_word w (opening nodes_name)) where
      pub sections-other : false ≡ opens_section w → sections s at ≡ malformed
      sections-other e = sections-step s at ∙ goes _ line (rw (← e, ← no))

      module _ (opens : true ≡ opens_section w) where
        pub sections-stuck : closing_line (ending (drop 1 w)) s next ≡ malformed → sections s at ≡ malformed
        sections-stuck e = sections-step s at ∙ goes _ line (rw (← opens, ← no) (fails _ e))

        pub sections-passed : {b : ℕ} → closing_line (ending (drop 1 w)) s next ≡ parsed tt b → (sections s at ≡ sections s b) × Within (suc at) s b
        sections-passed {b} e =
            let first = (word_line-within s at).ends w next line in let behind = (closing_line-within (ending (drop 1 w)) s next).ends tt b e in
            (sections-step s at ∙ goes _ line (rw (← opens, ← no) (goes _ e refl)), record { past = omega (arith, first.past, behind.past); inside = behind.inside })
