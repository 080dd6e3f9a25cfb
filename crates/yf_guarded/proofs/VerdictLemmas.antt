-- The guard never finds by reading that a text is encrypted. So that verdict is on encrypted texts.
use Rattle.std.proofs.Common.{◌≡◌, ◌&&◌, ◌++◌, ◌∷◌, [], ℕ, List, Bool, true, false, Option, Some, None, if◌then◌else◌, refl, subst, sym, ◌∙◌}
use Rattle.std.specs.Prelude.{flat_map, nat_lt}
use Rattle.std.proofs.lemmas.Bool.{false≢true}
use Rattle.yf_events.specs.Tree.{Node, scalar, alias, sequence, mapping, Items, no_items, item, Pairs, no_pairs, pair, DocumentTree}
use Rattle.yf_guard.specs.Guards.{IsVault, first_guarded, found_in_document, found_in_root, is_template, least_from, lines_start, lower, no_data_at, offset_of, start_of, template_if, templates, templates_of_items, templates_of_pairs}
use Rattle.yf_guard.specs.declared.guarded.Guarded.{Guarded}
use Rattle.yf_guard.specs.declared.guarded.Guarded.TheVariants.{Vault, NoData, Template}
use Rattle.yf_guarded.specs.Judged.{Guards, IsJudged, IsShownAs}
use Rattle.yf_guarded.specs.Judged.Guards.{encrypted, not_read, by_reading}
use Rattle.yf_guarded.specs.declared.read.Verdict.{Verdict}
use Rattle.yf_guarded.specs.declared.read.Verdict.TheVariants as verdict

-- A fault that a reading has.
abbrev is_read : Guarded → Bool
is_read Vault = false
is_read (NoData offset) = true
is_read (Template offset) = true

abbrev are_read : List Guarded → Bool
are_read [] = true
are_read (g ∷ gs) = is_read g && are_read gs

append_read : (xs ys : List Guarded) → are_read xs ≡ true → are_read ys ≡ true → are_read (xs ++ ys) ≡ true
append_read [] ys p q = q
append_read (Vault ∷ xs) ys p q = absurd (false≢true p)
append_read (NoData offset ∷ xs) ys p q = append_read xs ys p q
append_read (Template offset ∷ xs) ys p q = append_read xs ys p q

no_data_read : (o : Option ℕ) → are_read (no_data_at o) ≡ true
no_data_read None = refl
no_data_read (Some offset) = refl

template_read : (b : Bool) (offset : ℕ) → are_read (template_if b offset) ≡ true
template_read true offset = refl
template_read false offset = refl

mutual
  node_read : (x : Node) → are_read (templates x) ≡ true
  node_read (scalar at props style text lines) = refl
  node_read (alias at name) = refl
  node_read (sequence at flow props items) = items_read items
  node_read (mapping at flow props pairs) =
      append_read (templates_of_pairs pairs) (template_if (is_template flow pairs) (start_of at.span)) (pairs_read pairs)
      (template_read (is_template flow pairs) (start_of at.span))

  items_read : (xs : Items) → are_read (templates_of_items xs) ≡ true
  items_read no_items = refl
  items_read (item x xs) = append_read (templates x) (templates_of_items xs) (node_read x) (items_read xs)

  pairs_read : (ps : Pairs) → are_read (templates_of_pairs ps) ≡ true
  pairs_read no_pairs = refl
  pairs_read (pair k v ps) =
      append_read (templates k) (templates v ++ templates_of_pairs ps) (node_read k)
      (append_read (templates v) (templates_of_pairs ps) (node_read v) (pairs_read ps))

root_read : (t : List ℕ) (x : Node) → are_read (found_in_root t x) ≡ true
root_read t (scalar at props style text lines) = no_data_read (lines_start t props style at.span)
root_read t (alias at name) = refl
root_read t (sequence at flow props items) = node_read (sequence at flow props items)
root_read t (mapping at flow props pairs) = node_read (mapping at flow props pairs)

documents_read : (t : List ℕ) (trees : List DocumentTree) → are_read (flat_map (found_in_document t) trees) ≡ true
documents_read t [] = refl
documents_read t (d ∷ ds) =
    append_read (found_in_document t d) (flat_map (found_in_document t) ds) (root_read t d.root) (documents_read t ds)

abbrev IsRead : Option Guarded → Type 0
IsRead None = Unit {0}
IsRead (Some g) = is_read g ≡ true

lower_by : (b : Bool) (more least : Guarded) → is_read more ≡ true → is_read least ≡ true → IsRead (if b then Some more else Some least)
lower_by true more least p q = p
lower_by false more least p q = q

lower_read : (found : Option Guarded) (more : Guarded) → IsRead found → is_read more ≡ true → IsRead (lower found more)
lower_read None more p q = q
lower_read (Some least) more p q = lower_by (nat_lt (offset_of more) (offset_of least)) more least q p

least_read : (xs : List Guarded) (found : Option Guarded) → IsRead found → are_read xs ≡ true → IsRead (least_from found xs)
least_read [] found p q = p
least_read (Vault ∷ xs) found p q = absurd (false≢true q)
least_read (NoData offset ∷ xs) found p q = least_read xs (lower found (NoData offset)) (lower_read found (NoData offset) p refl) q
least_read (Template offset ∷ xs) found p q = least_read xs (lower found (Template offset)) (lower_read found (Template offset) p refl) q

never_vault : (t : List ℕ) (trees : List DocumentTree) → Some Vault ≡ first_guarded t trees → ⊥
never_vault t trees e =
    let found : IsRead (first_guarded t trees) = least_read (flat_map (found_in_document t) trees) None tt (documents_read t trees) in
    let bad : IsRead (Some Vault) = subst (λ (o : Option Guarded). IsRead o) (sym e) found in
    false≢true bad

vault_by : {reads : Bool} {t : List ℕ} {found : Option Guarded} → found ≡ Some Vault → Guards reads t found → IsVault t
vault_by is (encrypted vault e) = vault
vault_by is (not_read other unread none) = cc
vault_by {t = t} is (by_reading other read guard) = absurd (never_vault t guard.trees (sym is ∙ guard.first))

-- The verdict on a text with a fault.
pub verdict_shown : (reads : Bool) (t : List ℕ) (g : Guarded) (v : Verdict) → Guards reads t (Some g) → IsShownAs t g v → IsJudged reads t v
verdict_shown reads t g verdict.Passed guards shown = absurd shown
verdict_shown reads t Vault verdict.Encrypted guards shown = vault_by refl guards
verdict_shown reads t (NoData offset) verdict.Encrypted guards shown = absurd shown
verdict_shown reads t (Template offset) verdict.Encrypted guards shown = absurd shown
verdict_shown reads t g (verdict.NoData f) guards shown = (g, guards, shown)
