-- The leaves on the rows of a stream, and the comments that trail its keys.
use Rattle.std.proofs.Common.{◌≡◌, ℕ, Bool, true, false, List, [], ◌∷◌, ◌++◌, length, map, flat_map, refl, sym, ap, ◌∙◌, arith}
use Rattle.std.proofs.lemmas.Bool.{and_parts}
use Rattle.yf_events.specs.Tree.{DocumentTree, leaves}
use Rattle.yf_events.specs.declared.directive.Directive.{Directive}
use Rattle.yf_events.specs.declared.document.Doc.{Doc}
use Rattle.yf_events.specs.declared.event.Span.{Span}
use Rattle.yf_forms.specs.declared.form.decide.Form.{Form}
use Rattle.yf_forms.specs.NormalForms.Forms.{document_forms, documents_are_placed, forms, is_placed, no_form, site_at, stream_forms}
use Rattle.yf_forms.specs.Passes.MeasurePass.{setting}
use Rattle.yf_forms.specs.NormalForms.Normal.{LayoutSetting, root_margins, styled}
use Rattle.yf_print.specs.Layouts.Rows.{Row, all_rows, bare_rows, beginning_at, begun_at, directive_row, document_rows, end_rows, rows, start_row, stream_rows}
use Rattle.yf_laws.proofs.Printer.DocumentsPrinted.{AreNormal, IsNormal, normal_parts}
use Rattle.yf_laws.proofs.Trails.KeyTrails.{given, given_append, given_enclosed, keys_append, keys_on, node_given}
use Rattle.yf_laws.proofs.Trails.RowLeaves.{leaves_on, node_leaves, on_append}
use Rattle.yf_laws.proofs.NormalForms.StyledTwice.{House}

-- rows without leaves, and without comments that trail a key
record Blank (xs : List Row) : Type 0 where
  leaves : leaves_on xs ≡ []
  keys : keys_on xs ≡ []

blank_append : (xs ys : List Row) → Blank xs → Blank ys → Blank (xs ++ ys)
blank_append xs ys a b = record {
  leaves = on_append xs ys ∙ (ap (λ w. w ++ leaves_on ys) a.leaves ∙ b.leaves);
  keys = keys_append xs ys ∙ (ap (λ w. w ++ keys_on ys) a.keys ∙ b.keys);
}

directives_blank : (ds : List Directive) → Blank (map directive_row ds)
directives_blank [] = record { leaves = refl; keys = refl }
directives_blank (d ∷ ds) = blank_append (directive_row d ∷ []) (map directive_row ds) (record { leaves = refl; keys = refl }) (directives_blank ds)

end_blank : (is_first : Bool) (ds : List Directive) → Blank (end_rows is_first ds)
end_blank true ds = record { leaves = refl; keys = refl }
end_blank false [] = record { leaves = refl; keys = refl }
end_blank false (d ∷ ds) = record { leaves = refl; keys = refl }

beginning_blank : (start : ℕ) (xs : List Row) → Blank xs → Blank (beginning_at start xs)
beginning_blank start [] a = a
beginning_blank start (x ∷ xs) a = record { leaves = a.leaves; keys = a.keys }

abbrev begins : Bool → Doc → List Row
begins is_first d = beginning_at d.start (end_rows is_first d.directives ++ (map directive_row d.directives ++ (start_row ∷ [])))

begins_blank : (is_first : Bool) (d : Doc) → Blank (begins is_first d)
begins_blank is_first d =
    beginning_blank d.start (end_rows is_first d.directives ++ (map directive_row d.directives ++ (start_row ∷ [])))
    (blank_append (end_rows is_first d.directives) (map directive_row d.directives ++ (start_row ∷ [])) (end_blank is_first d.directives)
    (blank_append (map directive_row d.directives) (start_row ∷ []) (directives_blank d.directives) (record { leaves = refl; keys = refl })))

abbrev pub leaves_of : List DocumentTree → List Span
leaves_of ds = flat_map (λ d. leaves d.root) ds

-- roots in the house style
abbrev pub InHouse : LayoutSetting → List DocumentTree → Type 0
InHouse c [] = Unit {0}
InHouse c (d ∷ ds) = House c d.root × InHouse c ds

pub in_house : (c : LayoutSetting) (n : ℕ) (ds : List DocumentTree) → AreNormal c n ds → InHouse c ds
in_house c n [] a = tt
in_house c n (d ∷ ds) a = let parts = normal_parts a in (parts.0.house, in_house c n ds parts.1)

pub stream_leaves : (c : LayoutSetting) (is_first : Bool) (xs : List Doc) (ds : List DocumentTree) → length xs ≡ length ds → documents_are_placed ds ≡ true → InHouse c ds
    → leaves_on (stream_rows c is_first xs ds) ≡ leaves_of ds
stream_leaves c is_first [] [] e h a = refl
stream_leaves c is_first [] (t ∷ ds) e h a = absurd (omega (arith, e))
stream_leaves c is_first (x ∷ xs) [] e h a = absurd (omega (arith, e))
stream_leaves c is_first (x ∷ xs) (t ∷ ds) e h a =
    let hs = and_parts (is_placed t.root) (documents_are_placed ds) h in
    on_append (document_rows c is_first x t) (stream_rows c false xs ds)
    ∙ (ap (λ w. w ++ leaves_on (stream_rows c false xs ds))
    (on_append (begins is_first x) (rows c (root_margins c.style) t.root)
    ∙ (ap (λ w. w ++ leaves_on (rows c (root_margins c.style) t.root)) (begins_blank is_first x).leaves ∙ node_leaves c (root_margins c.style) t.root hs.0 a.0))
    ∙ ap (λ w. leaves t.root ++ w) (stream_leaves c false xs ds (omega (arith, e)) hs.1 a.1))

begun_leaves : (start : ℕ) (xs : List Row) → leaves_on (begun_at start xs) ≡ leaves_on xs
begun_leaves start [] = refl
begun_leaves start (x ∷ xs) = refl

pub begun_keys : (start : ℕ) (xs : List Row) → keys_on (begun_at start xs) ≡ keys_on xs
begun_keys start [] = refl
begun_keys start (x ∷ xs) = refl

pub all_leaves : (c : LayoutSetting) (bare : Bool) (xs : List Doc) (ds : List DocumentTree) → length xs ≡ length ds → documents_are_placed ds ≡ true → InHouse c ds
    → leaves_on (all_rows c bare xs ds) ≡ leaves_of ds
all_leaves c false xs ds e h a = stream_leaves c true xs ds e h a
all_leaves c true [] [] e h a = refl
all_leaves c true [] (t ∷ ds) e h a = absurd (omega (arith, e))
all_leaves c true (x ∷ xs) [] e h a = absurd (omega (arith, e))
all_leaves c true (x ∷ xs) (t ∷ ds) e h a =
    let hs = and_parts (is_placed t.root) (documents_are_placed ds) h in
    on_append (bare_rows c x t) (stream_rows c false xs ds)
    ∙ (ap (λ w. w ++ leaves_on (stream_rows c false xs ds))
    (begun_leaves x.start (rows c (root_margins c.style) t.root) ∙ node_leaves c (root_margins c.style) t.root hs.0 a.0)
    ∙ ap (λ w. leaves t.root ++ w) (stream_leaves c false xs ds (omega (arith, e)) hs.1 a.1))

abbrev forms_in : LayoutSetting → DocumentTree → List Form
forms_in c d = document_forms [] (setting c.style []) c d

root_keys : (c : LayoutSetting) (n : ℕ) (t : DocumentTree) → IsNormal c n t → given c (forms_in c t) ≡ keys_on (rows c (root_margins c.style) t.root)
root_keys c n t a =
    given_enclosed c no_form (forms c (site_at (root_margins c.style)) (styled [] (setting c.style []) t.root))
    ∙ (ap (λ w. given c (forms c (site_at (root_margins c.style)) w)) a.house ∙ node_given c (site_at (root_margins c.style)) t.root a.house a.settled)

document_keys : (c : LayoutSetting) (n : ℕ) (is_first : Bool) (x : Doc) (t : DocumentTree) → IsNormal c n t → given c (forms_in c t) ≡ keys_on (document_rows c is_first x t)
document_keys c n is_first x t a =
    let mine : List Row = rows c (root_margins c.style) t.root in
    root_keys c n t a ∙ (ap (λ w. w ++ keys_on mine) (sym (begins_blank is_first x).keys) ∙ sym (keys_append (begins is_first x) mine))

documents_keys : (c : LayoutSetting) (n : ℕ) (is_first : Bool) (xs : List Doc) (ds : List DocumentTree) → length xs ≡ length ds → AreNormal c n ds
    → given c (flat_map (forms_in c) ds) ≡ keys_on (stream_rows c is_first xs ds)
documents_keys c n is_first [] [] e a = refl
documents_keys c n is_first [] (t ∷ ds) e a = absurd (omega (arith, e))
documents_keys c n is_first (x ∷ xs) [] e a = absurd (omega (arith, e))
documents_keys c n is_first (x ∷ xs) (t ∷ ds) e a =
    let parts = normal_parts a in
    given_append c (forms_in c t) (flat_map (forms_in c) ds)
    ∙ (ap (λ w. w ++ given c (flat_map (forms_in c) ds)) (document_keys c n is_first x t parts.0)
    ∙ (ap (λ w. keys_on (document_rows c is_first x t) ++ w) (documents_keys c n false xs ds (omega (arith, e)) parts.1)
    ∙ sym (keys_append (document_rows c is_first x t) (stream_rows c false xs ds))))

bare_keys : (c : LayoutSetting) (n : ℕ) (bare : Bool) (xs : List Doc) (ds : List DocumentTree) → length xs ≡ length ds → AreNormal c n ds
    → given c (flat_map (forms_in c) ds) ≡ keys_on (all_rows c bare xs ds)
bare_keys c n false xs ds e a = documents_keys c n true xs ds e a
bare_keys c n true [] [] e a = refl
bare_keys c n true [] (t ∷ ds) e a = absurd (omega (arith, e))
bare_keys c n true (x ∷ xs) [] e a = absurd (omega (arith, e))
bare_keys c n true (x ∷ xs) (t ∷ ds) e a =
    let parts = normal_parts a in
    given_append c (forms_in c t) (flat_map (forms_in c) ds)
    ∙ (ap (λ w. w ++ given c (flat_map (forms_in c) ds)) (root_keys c n t parts.0 ∙ sym (begun_keys x.start (rows c (root_margins c.style) t.root)))
    ∙ (ap (λ w. keys_on (bare_rows c x t) ++ w) (documents_keys c n false xs ds (omega (arith, e)) parts.1)
    ∙ sym (keys_append (bare_rows c x t) (stream_rows c false xs ds))))

pub stream_keys : (c : LayoutSetting) (n : ℕ) (bare : Bool) (xs : List Doc) (ds : List DocumentTree) → length xs ≡ length ds → AreNormal c n ds
    → given c (stream_forms [] (setting c.style []) c ds) ≡ keys_on (all_rows c bare xs ds)
stream_keys c n bare xs ds e a = given_enclosed c no_form (flat_map (forms_in c) ds) ∙ bare_keys c n bare xs ds e a
