-- A file below the folder of a settings file.
use Rattle.std.proofs.Common.{◌≡◌, ◌≢◌, ◌↔◌, ℕ, ◌+◌, ◌<◌, ◌≤◌, Bool, true, false, IsTrue, List, [], ◌∷◌, ◌++◌, length, take, drop, get_or, map, position, Option, Some, None, inl, inr, refl, sym, subst, ap, ◌∙◌, arith}
use Rattle.std.specs.Prelude.{is_some, MatchOption}
use Rattle.std.proofs.lemmas.Bool.{false≢true}
use Rattle.std.proofs.lemmas.List.{append_cancel_left, drop-map, get_or_append_left, get_or-map, length-append, length-map, same_from_push, take-append-drop, take_all, take_more_same}
use Rattle.std.proofs.lemmas.Option.{same_Some}
use Rattle.yf_excludes.specs.declared.pattern.Pattern.{Pattern}
use Rattle.yf_excludes.specs.Excluded.{IsExcluded}
use Rattle.yf_excludes.specs.Located.{ExcludesFile, IsNoFolder, LeadsToFile, from_root}
use Rattle.yf_excludes.specs.Names.{Leads, last_part, more_parts, out, after_part, texts}
use Rattle.yf_excludes.specs.Paths.{Lent}
use Rattle.yf_excludes.specs.Segments.{is_slash}
use Rattle.yf_excludes.proofs.SameTextsLemmas.{excluded_alike}

none_some : {A : Type 0} {a : A} → None ≡ Some a → ⊥
none_some e = cc

-- a path leads to one list of names
leads_one : {names : List (List ℕ)} {t : List ℕ} {a b : Option (List (List ℕ))} → Leads names t a → Leads names t b
    → a ≡ b
leads_one (last_part n e) (last_part m f) = e ∙ sym f
leads_one (last_part n e) (more_parts m f l) = absurd (none_some (sym n ∙ m))
leads_one (last_part n e) (out m f g) = absurd (none_some (sym n ∙ m))
leads_one (more_parts n e l) (last_part m f) = absurd (none_some (sym m ∙ n))
leads_one {names} {t} {a} {b} (more_parts {next = x} {k = j} n e l) (more_parts {next = y} {k = k} m f r) =
    let same : j ≡ k = same_Some _ _ (sym n ∙ m) in
    let there : after_part names (take j t) ≡ Some y = subst (λ i. after_part names (take i t) ≡ Some y) (sym same) f in
    let next : x ≡ y = same_Some _ _ (sym e ∙ there) in
    let rest : Leads y (drop (j + 1) t) b = subst (λ i. Leads y (drop (i + 1) t) b) (sym same) r in
    leads_one l (subst (λ z. Leads z (drop (j + 1) t) b) (sym next) rest)
leads_one {names} {t} (more_parts {next = x} {k = j} n e l) (out {k = k} m f g) =
    let same : j ≡ k = same_Some _ _ (sym n ∙ m) in
    let there : after_part names (take j t) ≡ None = subst (λ i. after_part names (take i t) ≡ None) (sym same) f in
    absurd (none_some (sym there ∙ e))
leads_one (out n e f) (last_part m g) = absurd (none_some (sym m ∙ n))
leads_one {names} {t} (out {k = j} n e f) (more_parts {next = y} {k = k} m g r) =
    let same : j ≡ k = same_Some _ _ (sym n ∙ m) in
    let there : after_part names (take j t) ≡ Some y = subst (λ i. after_part names (take i t) ≡ Some y) (sym same) g in
    absurd (none_some (sym e ∙ there))
leads_one (out n e f) (out m g h) = f ∙ sym h

-- a path is that of a file in one folder
folder_one : (path : List ℕ) (folder other : List (List ℕ)) → LeadsToFile path folder → LeadsToFile path other
    → folder ≡ other
folder_one path folder other l r =
    (same_from_push folder other l.own r.own (same_Some _ _ (leads_one l.leads r.leads))).0

-- a path that leads to nothing, or to no name, is not that of a file in a folder
pub no_folder : (path : List ℕ) (o : Option (List (List ℕ))) → Leads [] path o → o ≡ None → IsNoFolder path
no_folder path o leads none folder l = none_some (sym none ∙ leads_one leads l.leads)

pub no_last : (path : List ℕ) (names : List (List ℕ)) → Leads [] path (Some names) → names ≡ [] → IsNoFolder path
no_last path names leads none folder l =
    let same : [] ≡ folder ++ l.own ∷ [] = sym none ∙ same_Some _ _ (leads_one leads l.leads) in
    let count : length (folder ++ l.own ∷ []) ≡ length folder + 1 = length-append folder (l.own ∷ []) in
    let some : ⊥ = omega (arith, ap (λ x. length x) same, count) in some

pub popped_none : {A : Type 0} (r : Option A) (P : Type 0) (Q : A → Type 0) → is_some r ≡ false → MatchOption r P Q → P
popped_none None P Q e m = m
popped_none (Some x) P Q e m = absurd (false≢true (sym e))

pub to_file : (path : List ℕ) (names front : List Lent) (last : Lent) → Leads [] path (Some (texts names))
    → names ≡ front ++ last ∷ [] → LeadsToFile path (texts front)
to_file path names front last leads is = record {
  own = last.now;
  leads = subst (λ x. Leads [] path (Some x)) (ap texts is ∙ texts_push front last) leads;
} where
  texts_push : (xs : List Lent) (x : Lent) → texts (xs ++ x ∷ []) ≡ texts xs ++ x.now ∷ []
  texts_push [] x = refl
  texts_push (y ∷ xs) x = ap (λ z. y.now ∷ z) (texts_push xs x)

-- the names of a file begin with those of a folder, or don't
module _ (folder file : List Lent) where
  pub name_more : (k : ℕ) (d e : Lent) → k < length folder → k < length file
      → (get_or folder k d).now ≡ (get_or file k e).now → take k (texts folder) ≡ take k (texts file)
      → take (k + 1) (texts folder) ≡ take (k + 1) (texts file)
  name_more k d e within within' same so_far =
      let left : get_or (texts folder) k [] ≡ (get_or folder k d).now = get_or-map (λ n. n.now) folder k d [] within in
      let right : get_or (texts file) k [] ≡ (get_or file k e).now = get_or-map (λ n. n.now) file k e [] within' in
      let count : length (texts folder) ≡ length folder = length-map folder (λ n. n.now) in
      let count' : length (texts file) ≡ length file = length-map file (λ n. n.now) in
      take_more_same (texts folder) (texts file) k [] (omega (arith, count, within)) (omega (arith, count', within'))
      so_far (left ∙ same ∙ sym right)

  pub all_names : (k : ℕ) → length folder ≤ k → k ≤ length folder → take k (texts folder) ≡ take k (texts file)
      → texts file ≡ texts folder ++ texts (drop (length folder) file)
  all_names k most least same =
      let whole : k ≡ length folder = omega (arith, most, least) in
      let count : length (texts folder) ≡ length folder = length-map folder (λ n. n.now) in
      let front : texts folder
      ≡ take k (texts file) = sym (take_all k (texts folder) (omega (arith, count, most))) ∙ same in
      let parts : take k (texts file) ++ drop k (texts file) ≡ texts file = take-append-drop k (texts file) in
      let rest : drop k (texts file) ≡ texts (drop k file) = drop-map (λ n. n.now) k file in
      let at_k : texts file ≡ texts folder ++ texts (drop k file) =
      sym parts ∙ ap (λ x. take k (texts file) ++ x) rest ∙ ap (λ x. x ++ texts (drop k file)) (sym front) in
      subst (λ i. texts file ≡ texts folder ++ texts (drop i file)) whole at_k

  pub too_few : length file < length folder → (path : List (List ℕ)) → ¬ (texts file ≡ texts folder ++ path)
  too_few less path same =
      let sum : length (texts folder ++ path)
      ≡ length (texts folder) + length path = length-append (texts folder) path in
      let count : length (texts folder) ≡ length folder = length-map folder (λ n. n.now) in
      let count' : length (texts file) ≡ length file = length-map file (λ n. n.now) in
      let none : ⊥ = omega (arith, less, ap (λ x. length x) same, sum, count, count') in none

  pub other_name : (k : ℕ) (d e : Lent) → k < length folder → k < length file
      → (get_or folder k d).now ≢ (get_or file k e).now → (path : List (List ℕ)) → ¬ (texts file ≡ texts folder ++ path)
  other_name k d e within within' differ path same =
      let left : get_or (texts folder) k [] ≡ (get_or folder k d).now = get_or-map (λ n. n.now) folder k d [] within in
      let right : get_or (texts file) k [] ≡ (get_or file k e).now = get_or-map (λ n. n.now) file k e [] within' in
      let count : length (texts folder) ≡ length folder = length-map folder (λ n. n.now) in
      let front : get_or (texts folder ++ path) k [] ≡ get_or (texts folder) k [] =
      get_or_append_left (texts folder) path [] k (omega (arith, count, within)) in
      differ (sym left ∙ sym front ∙ ap (λ x. get_or x k []) (sym same) ∙ right)

-- excluded files, and others
module _ (patterns : List Pattern) (current settings file : List ℕ) where
  excludes_not : ¬ (ExcludesFile patterns current settings file)
      → IsTrue false ↔ ExcludesFile patterns current settings file
  excludes_not never = (λ yes. absurd (false≢true yes), λ e. absurd (never e))

  pub without_folder : IsNoFolder (from_root current settings)
      → IsTrue false ↔ ExcludesFile patterns current settings file
  without_folder none = excludes_not (λ e. none e.folder e.settings_in)

  pub without_names : (o : Option (List (List ℕ))) → Leads [] (from_root current file) o → o ≡ None
      → IsTrue false ↔ ExcludesFile patterns current settings file
  without_names o leads none = excludes_not (λ e. none_some (sym none ∙ leads_one leads e.file_below))

  pub not_below : (folder names : List (List ℕ)) → LeadsToFile (from_root current settings) folder
      → Leads [] (from_root current file) (Some names)
      → ((path : List (List ℕ)) → ¬ (names ≡ folder ++ path))
      → IsTrue false ↔ ExcludesFile patterns current settings file
  not_below folder names there leads outside = excludes_not (λ e.
      let same : folder ≡ e.folder = folder_one (from_root current settings) folder e.folder there e.settings_in in
      let is : names ≡ e.folder ++ texts e.path = same_Some _ _ (leads_one leads e.file_below) in
      outside (texts e.path) (is ∙ ap (λ x. x ++ texts e.path) (sym same)))

  pub below : (folder names : List (List ℕ)) (path : List Lent) (b : Bool)
      → LeadsToFile (from_root current settings) folder → Leads [] (from_root current file) (Some names)
      → names ≡ folder ++ texts path → IsTrue b ↔ IsExcluded patterns path
      → IsTrue b ↔ ExcludesFile patterns current settings file
  below folder names path b there leads is excluded = (
    λ yes. record {
      folder = folder;
      settings_in = there;
      path = path;
      file_below = subst (λ x. Leads [] (from_root current file) (Some x)) is leads;
      excluded = excluded.0 yes;
    },
    λ e.
        let same : folder ≡ e.folder = folder_one (from_root current settings) folder e.folder there e.settings_in in
        let both : names ≡ e.folder ++ texts e.path = same_Some _ _ (leads_one leads e.file_below) in
        let alike : texts path ≡ texts e.path =
        append_cancel_left folder (texts path) (texts e.path) (sym is ∙ both ∙ ap (λ x. x ++ texts e.path) (sym
        same)) in
        excluded.1 (excluded_alike patterns e.path path (sym alike) e.excluded),
  )
