-- Handles among the declarations, and the texts of tags.
use Rattle.std.proofs.Common.{◌≡◌, ℕ, Bool, true, false, cond, List, [], ◌∷◌, ◌++◌, map, Option, Some, None, codes, refl, sym, ap, ◌∙◌, subst, is_some, true≢false, append-nil}
use Rattle.std.specs.Borrow.{Bor}
use Rattle.std.specs.Map.{lookup}
use Rattle.std.specs.Str.{IsUtf8, bytes_eq}
use Rattle.indexmap.specs.IndexMap.{IndexMap, insert_entry}
use Rattle.indexmap.proofs.CallerLemmas.{insert_entry-new}
use Rattle.percent_encoding.specs.Percent.{percent_decode}
use Rattle.yf_props.specs.Props.{name_value}
use Rattle.yf_props.specs.Props.TagValue.{IsVerbatim, IsShort, IsNonSpecific}
use Rattle.yf_props.specs.Handles.{Declaration, declaration, is_declared, prefix_of, SuffixText, TagText}
use Rattle.yf_props.specs.Handles.SuffixText.{as_decoded}
use Rattle.yf_props.specs.Handles.TagText.{verbatim_text, shorthand_text, non_specific_text}

name_cond : (b : Bool) (x : Bor (List ℕ)) (q : Option (Bor (List ℕ))) → cond b (Some x.now) (name_value q) ≡ name_value (cond b (Some x) q)
name_cond true x q = refl
name_cond false x q = refl

-- the entries of the map and the declarations give one result
pub lookup_declaration : (es : List (Bor (List ℕ) × Bor (List ℕ))) (h : List ℕ)
    → lookup (bytes_eq h) (map declaration es) ≡ name_value (lookup (λ k. bytes_eq h k.now) es)
lookup_declaration [] h = refl
lookup_declaration (e ∷ es) h =
    ap (λ q. cond (bytes_eq h e.0.now) (Some e.1.now) q) (lookup_declaration es h)
    ∙ name_cond (bytes_eq h e.0.now) e.1 (lookup (λ k. bytes_eq h k.now) es)

pub map_declaration : (es : List (Bor (List ℕ) × Bor (List ℕ))) (e : Bor (List ℕ) × Bor (List ℕ))
    → map declaration (es ++ e ∷ []) ≡ map declaration es ++ declaration e ∷ []
map_declaration [] e = refl
map_declaration (d ∷ es) e = ap (λ w. declaration d ∷ w) (map_declaration es e)

-- whether a handle is declared, by the map
pub is_declared-map : (es : List (Bor (List ℕ) × Bor (List ℕ))) (h : List ℕ)
    → is_declared (map declaration es) h ≡ is_some (lookup (λ k. bytes_eq h k.now) es)
is_declared-map es h = ap is_some (lookup_declaration es h) ∙ some_name (lookup (λ k. bytes_eq h k.now) es) where
  some_name : (q : Option (Bor (List ℕ))) → is_some (name_value q) ≡ is_some q
  some_name None = refl
  some_name (Some x) = refl

none_found : (q : Option (Bor (List ℕ))) → is_some q ≡ false → q ≡ None
none_found None e = refl
none_found (Some x) e = absurd (true≢false e)

-- a new handle's declaration comes last
pub new_declaration : {S : Type 0} (m : IndexMap (Bor (List ℕ)) (Bor (List ℕ)) S) (k v : Bor (List ℕ)) (es : List (Bor (List ℕ) × Bor (List ℕ)))
    → is_some (lookup (λ x. bytes_eq k.now x.now) m.entries) ≡ false → es ≡ insert_entry (λ x y. bytes_eq x.now y.now) m.entries k v
    → map declaration es ≡ map declaration m.entries ++ (k.now, v.now) ∷ []
new_declaration m k v es e f =
    let none = none_found (lookup (λ x. bytes_eq k.now x.now) m.entries) e in
    ap (map declaration) (f ∙ insert_entry-new (λ x y. bytes_eq x.now y.now) m k v none) ∙ map_declaration m.entries (k, v)

-- texts of suffixes
pub decoded_suffix : {s d : List ℕ} → d ≡ percent_decode s → IsUtf8 d → SuffixText s d
decoded_suffix {s} {d} e u =
    let u' : IsUtf8 (percent_decode s) = subst IsUtf8 e u in
    subst (λ x. SuffixText s x) (sym e) (as_decoded u')

-- texts of tags
module _ {ds : List Declaration} where
  pub verbatim_is : {text x : List ℕ} → x ≡ text ++ [] → TagText ds (IsVerbatim text) x
  verbatim_is {text} e = subst (λ y. TagText ds (IsVerbatim text) y) (sym (e ∙ append-nil text)) verbatim_text

  pub non_specific_is : {x : List ℕ} → x ≡ codes "!" ++ [] → TagText ds IsNonSpecific x
  non_specific_is e = subst (λ y. TagText ds IsNonSpecific y) (sym e) non_specific_text

  pub shorthand_is : {handle prefix suffix x text : List ℕ} → prefix_of ds handle ≡ Some prefix → SuffixText suffix x → text ≡ prefix ++ x
      → TagText ds (IsShort handle suffix) text
  shorthand_is {handle} {prefix} {suffix} e d is = subst (λ y. TagText ds (IsShort handle suffix) y) (sym is) (shorthand_text e d)
