-- The documents of a list by their URIs.
use Rattle.std.proofs.Common.{◌≡◌, ℕ, ◌+◌, ◌<◌, List, [], ◌∷◌, ◌++◌, length, take, drop, get_or, suc, true, false, Option, None, Some, option_map, ⊎_elim, refl, sym, ap, ◌∙◌, arith, set, string_bytes, subst, append-nil}
use Rattle.std.specs.Prelude.{ℤ, bytes_eq, int_lt}
use Rattle.std.specs.List.{remove}
use Rattle.std.specs.Option.{option_or}
use Rattle.std.proofs.lemmas.Bool.{cases_Bool}
use Rattle.std.proofs.lemmas.List.{take_more, drop_more, take-append-drop, take-set, drop-set-lt, length-set, get_or-set_same}
use Rattle.std.proofs.lemmas.Slice.Eq.{bytes_eq-Decides}
use Rattle.yf_server.specs.declared.documents.OpenDocument.{OpenDocument}
use Rattle.yf_server.specs.declared.documents.Outcome.{Outcome}
use Rattle.yf_server.specs.declared.documents.Outcome.TheVariants.{Done, OldVersion}
use Rattle.yf_positions.specs.declared.encoding.Encoding.{Encoding}
use Rattle.yf_positions.specs.Changes.{TextChange}
use Rattle.yf_server.specs.Documents.{IsFirst, OpenText, Updates, change_outcome, changed_by, close_outcome, find, start_of, text_after, text_of, text_outcome, without_text}

-- the first of both lists
pub find_append : (u : List ℕ) (xs ys : List OpenDocument) → find u (xs ++ ys) ≡ option_or (find u xs) (find u ys)
find_append u [] ys = refl
find_append u (x ∷ xs) ys =
    ⊎_elim (λ (e : bytes_eq u (string_bytes x.uri) ≡ true). rw e refl)
    (λ (e : bytes_eq u (string_bytes x.uri) ≡ false). rw e (find_append u xs ys))
    (cases_Bool (bytes_eq u (string_bytes x.uri)))

-- one more document that has another URI
pub find_more : (u : List ℕ) (xs : List OpenDocument) (i : ℕ) (x : OpenDocument) → i < length xs → x ≡ get_or xs i x
    → bytes_eq u (string_bytes x.uri) ≡ false → find u (take i xs) ≡ None → find u (take (i + 1) xs) ≡ None
find_more u xs i x l is e h =
    ap (find u) (take_more xs i x l ∙ ap (λ y. take i xs ++ y ∷ []) (sym is))
    ∙ find_append u (take i xs) (x ∷ [])
    ∙ ap (λ z. option_or z (find u (x ∷ []))) h
    ∙ (rw e refl)

pub first_here : (u : List ℕ) (xs : List OpenDocument) (i : ℕ) (x : OpenDocument) → i < length xs → x ≡ get_or xs i x
    → bytes_eq u (string_bytes x.uri) ≡ true → find u (take i xs) ≡ None → IsFirst xs u i
first_here u xs i x l is e h = record {
  within = l;
  document = x;
  rest = drop_more xs i x l ∙ ap (λ y. y ∷ drop (i + 1) xs) (sym is);
  named = e;
  before = h;
}

-- the first document with a URI, and a list around it
find_around : (u : List ℕ) (front back : List OpenDocument) (x : OpenDocument) → find u front ≡ None
    → bytes_eq u (string_bytes x.uri) ≡ true → find u (front ++ x ∷ back) ≡ Some (text_of x)
find_around u front back x none e =
    find_append u front (x ∷ back)
    ∙ ap (λ z. option_or z (find u (x ∷ back))) none
    ∙ (rw e refl)

find_apart : (u : List ℕ) (front back : List OpenDocument) (x : OpenDocument)
    → bytes_eq u (string_bytes x.uri) ≡ false → find u (front ++ x ∷ back) ≡ find u (front ++ back)
find_apart u front back x e =
    find_append u front (x ∷ back)
    ∙ (rw e refl)
    ∙ sym (find_append u front back)

same_uri : (u v w : List ℕ) → bytes_eq u w ≡ true → bytes_eq v u ≡ bytes_eq v w
same_uri u v w e = ap (bytes_eq v) ((bytes_eq-Decides u w).0 e)

around : (xs : List OpenDocument) (u : List ℕ) (i : ℕ) (f : IsFirst xs u i)
    → xs ≡ take i xs ++ f.document ∷ drop (i + 1) xs
around xs u i f = sym (take-append-drop i xs) ∙ ap (λ z. take i xs ++ z) f.rest

set_around : (xs : List OpenDocument) (u : List ℕ) (i : ℕ) (d : OpenDocument) → IsFirst xs u i
    → set xs i d ≡ take i xs ++ d ∷ drop (i + 1) xs
set_around xs u i d f =
    let inside : i < length (set xs i d) = subst (λ n. i < n) (sym (length-set xs i d)) f.within in
    sym (take-append-drop i (set xs i d))
    ∙ ap (λ z. z ++ drop i (set xs i d)) (take-set xs i d)
    ∙ ap (λ z. take i xs ++ z) (drop_more (set xs i d) i d inside)
    ∙ ap (λ z. take i xs ++ z ∷ drop (i + 1) (set xs i d)) (get_or-set_same xs i d d f.within)
    ∙ ap (λ z. take i xs ++ d ∷ z) (drop-set-lt (i + 1) xs i d (omega arith))

pub first_found : (u : List ℕ) (xs : List OpenDocument) (i : ℕ) (f : IsFirst xs u i)
    → find u xs ≡ Some (text_of f.document)
first_found u xs i f =
    ap (find u) (around xs u i f) ∙ find_around u (take i xs) (drop (i + 1) xs) f.document f.before f.named

pub pushed : (u : List ℕ) (xs : List OpenDocument) (d : OpenDocument) → find u xs ≡ None
    → bytes_eq u (string_bytes d.uri) ≡ true → Updates xs (xs ++ d ∷ []) u (Some (text_of d))
pushed u xs d none named other =
    ⊎_elim
    (λ (e : bytes_eq other u ≡ true).
    let same : other ≡ u = (bytes_eq-Decides other u).0 e in
    ap (λ v. find v (xs ++ d ∷ [])) same ∙ find_around u xs [] d none named ∙ (rw e refl))
    (λ (e : bytes_eq other u ≡ false).
    find_apart other xs [] d (sym (same_uri u other (string_bytes d.uri) named) ∙ e)
    ∙ ap (find other) (append-nil xs) ∙ (rw e refl))
    (cases_Bool (bytes_eq other u))

pub put_first : (u : List ℕ) (xs : List OpenDocument) (i : ℕ) (d : OpenDocument) → IsFirst xs u i
    → bytes_eq u (string_bytes d.uri) ≡ true → Updates xs (set xs i d) u (Some (text_of d))
put_first u xs i d f named other =
    let front = take i xs in
    let back = drop (i + 1) xs in
    ⊎_elim
    (λ (e : bytes_eq other u ≡ true).
    let same : other ≡ u = (bytes_eq-Decides other u).0 e in
    ap (λ v. find v (set xs i d)) same ∙ ap (find u) (set_around xs u i d f)
    ∙ find_around u front back d f.before named ∙ (rw e refl))
    (λ (e : bytes_eq other u ≡ false).
    ap (find other) (set_around xs u i d f)
    ∙ find_apart other front back d (sym (same_uri u other (string_bytes d.uri) named) ∙ e)
    ∙ sym (find_apart other front back f.document (sym (same_uri u other (string_bytes f.document.uri) f.named) ∙ e))
    ∙ ap (find other) (sym (around xs u i f)) ∙ (rw e refl))
    (cases_Bool (bytes_eq other u))

pub removed : (u : List ℕ) (xs : List OpenDocument) (i : ℕ) → IsFirst xs u i → (other : List ℕ)
    → bytes_eq other u ≡ false → find other (remove xs i) ≡ find other xs
removed u xs i f other e =
    let more : suc i ≡ i + 1 = omega arith in
    ap (λ n. find other (take i xs ++ drop n xs)) more
    ∙ sym (find_apart other (take i xs) (drop (i + 1) xs) f.document
    (sym (same_uri u other (string_bytes f.document.uri) f.named) ∙ e))
    ∙ ap (find other) (sym (around xs u i f))

pub withdrawn : (u : List ℕ) (before after : List OpenDocument) → find u after ≡ None
    → ((other : List ℕ) → bytes_eq other u ≡ false → find other after ≡ find other before)
    → Updates before after u None
withdrawn u before after none rest other =
    ⊎_elim
    (λ (e : bytes_eq other u ≡ true).
    let same : other ≡ u = (bytes_eq-Decides other u).0 e in
    ap (λ v. find v after) same ∙ none ∙ (rw e refl))
    (λ (e : bytes_eq other u ≡ false). rest other e ∙ (rw e refl))
    (cases_Bool (bytes_eq other u))

pub updates_at : (before after same : List OpenDocument) (u : List ℕ) (now : Option OpenText) → after ≡ same
    → Updates before same u now → Updates before after u now
updates_at before after same u now e h other = ap (find other) e ∙ h other

pub found_at : (u : List ℕ) (xs : List OpenDocument) (i : ℕ) (x : OpenDocument) → IsFirst xs u i → x ≡ get_or xs i x
    → find u xs ≡ Some (text_of x)
found_at u xs i x f is =
    let same : get_or xs i x ≡ f.document =
    ap (λ l. get_or l 0 x) (sym (drop_more xs i x f.within) ∙ f.rest) in
    first_found u xs i f ∙ ap (λ d. Some (text_of d)) (sym (is ∙ same))

-- nothing has changed
pub unchanged : (u : List ℕ) (xs : List OpenDocument) → Updates xs xs u (find u xs)
unchanged u xs other =
    ⊎_elim
    (λ (e : bytes_eq other u ≡ true).
    let same : other ≡ u = (bytes_eq-Decides other u).0 e in ap (λ v. find v xs) same ∙ (rw e refl))
    (λ (e : bytes_eq other u ≡ false). rw e refl)
    (cases_Bool (bytes_eq other u))

pub updates_to : (before after : List OpenDocument) (u : List ℕ) (now same : Option OpenText) → now ≡ same
    → Updates before after u now → Updates before after u same
updates_to before after u now same e h = subst (Updates before after u) e h

-- a text that is lost
pub lost_none : (u : List ℕ) (xs : List OpenDocument) → find u xs ≡ None
    → Updates xs xs u (option_map without_text (find u xs))
lost_none u xs h = updates_to xs xs u (find u xs) (option_map without_text (find u xs))
    (h ∙ sym (ap (option_map without_text) h)) (unchanged u xs)

pub lost_first : (u : List ℕ) (xs : List OpenDocument) (i : ℕ) (x d : OpenDocument) → IsFirst xs u i → x ≡ get_or xs i x
    → d.uri ≡ x.uri → text_of d ≡ without_text (text_of x)
    → Updates xs (set xs i d) u (option_map without_text (find u xs))
lost_first u xs i x d f is uri made =
    let same : x ≡ f.document =
    is ∙ ap (λ l. get_or l 0 x) (sym (drop_more xs i x f.within) ∙ f.rest) in
    let named : bytes_eq u (string_bytes d.uri) ≡ true =
    ap (λ v. bytes_eq u (string_bytes v)) uri ∙ ap (λ y. bytes_eq u (string_bytes y.uri)) same ∙ f.named in
    updates_to xs (set xs i d) u (Some (text_of d)) (option_map without_text (find u xs))
    (ap Some made ∙ sym (ap (option_map without_text) (found_at u xs i x f is))) (put_first u xs i d f named)

-- a change that is too old, one that leads to no text, and one that is made
pub too_old : (e : Encoding) (was : Option OpenText) (x : OpenDocument) (version : ℤ) (changes : List TextChange)
    → was ≡ Some (text_of x) → int_lt x.version version ≡ false
    → (was ≡ changed_by e was version changes) × (OldVersion ≡ change_outcome e was version changes)
too_old e was x version changes is h = rw is (rw h (refl, refl))

pub kept : (e : Encoding) (was : Option OpenText) (x : OpenDocument) (version : ℤ) (changes : List TextChange)
    (outcome : Outcome) → was ≡ Some (text_of x) → int_lt x.version version ≡ true
    → (text_after e x.document changes ≡ None) × (text_outcome e changes (start_of x.document changes) ≡ outcome)
    → (was ≡ changed_by e was version changes) × (outcome ≡ change_outcome e was version changes)
kept e was x version changes outcome is h t = rw is (rw (h, t.0) (refl, sym t.1))

pub made : (e : Encoding) (was : Option OpenText) (x : OpenDocument) (version : ℤ) (changes : List TextChange)
    (text : List ℕ) → was ≡ Some (text_of x) → int_lt x.version version ≡ true
    → (text_after e x.document changes ≡ Some text)
    × (text_outcome e changes (start_of x.document changes) ≡ Done)
    → (Some (record { version = version; text = Some text }) ≡ changed_by e was version changes)
    × (Done ≡ change_outcome e was version changes)
made e was x version changes text is h t = rw is (rw (h, t.0) (refl, sym t.1))

pub was_open : (was : Option OpenText) (x : OpenText) → was ≡ Some x → Done ≡ close_outcome was
was_open was x is = rw is refl
