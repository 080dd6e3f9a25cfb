-- The texts of all documents are lost, one after the other.
use Rattle.std.proofs.Common.{◌≡◌, ℕ, ◌+◌, ◌<◌, ◌≤◌, List, [], ◌∷◌, ◌++◌, length, take, drop, get_or, set, true, false, Option, None, Some, option_map, ⊎_elim, refl, sym, ap, ◌∙◌, arith, string_bytes, subst, take_all, if◌then◌else◌}
use Rattle.std.specs.Prelude.{bytes_eq}
use Rattle.std.specs.Option.{option_or}
use Rattle.std.proofs.lemmas.Bool.{cases_Bool}
use Rattle.std.proofs.lemmas.List.{drop-set-lt, drop_more, length-set, take_more, take_more_set}
use Rattle.std.proofs.lemmas.Grind.{drop_more_same}
use Rattle.yf_server.proofs.DocumentLemmas.{find_append}
use Rattle.yf_server.specs.declared.documents.OpenDocument.{OpenDocument}
use Rattle.yf_server.specs.Documents.{OpenText, find, text_of, without_text}

-- the documents before an index have lost their texts, and the others are as before
pub record LostUpTo (before now : List OpenDocument) (i : ℕ) : Type 0 where
  pub lengths : length now ≡ length before
  pub rest : drop i now ≡ drop i before
  pub front : (u : List ℕ) → find u (take i now) ≡ option_map without_text (find u (take i before))

pub none_lost : (xs : List OpenDocument) → LostUpTo xs xs 0
none_lost xs = record { lengths = refl; rest = refl; front = λ u. refl }

or_lost : (a b : Option OpenText)
    → option_or (option_map without_text a) (option_map without_text b) ≡ option_map without_text (option_or a b)
or_lost None b = refl
or_lost (Some x) b = refl

one_lost : (u : List ℕ) (x d : OpenDocument) → d.uri ≡ x.uri → text_of d ≡ without_text (text_of x)
    → find u (d ∷ []) ≡ option_map without_text (find u (x ∷ []))
one_lost u x d named made =
    ap (λ v. if bytes_eq u (string_bytes v) then Some (text_of d) else None) named
    ∙ ⊎_elim
    (λ (e : bytes_eq u (string_bytes x.uri) ≡ true). rw e (ap Some made))
    (λ (e : bytes_eq u (string_bytes x.uri) ≡ false). rw e refl)
    (cases_Bool (bytes_eq u (string_bytes x.uri)))

same_first : (before now : List OpenDocument) (i : ℕ) (x : OpenDocument) → i < length before → i < length now
    → drop i now ≡ drop i before → get_or before i x ≡ get_or now i x
same_first before now i x b l rest =
    ap (λ ys. get_or ys 0 x) (sym (drop_more before i x b) ∙ sym rest ∙ drop_more now i x l)

pub one_more_lost : (before now : List OpenDocument) (i : ℕ) (x d : OpenDocument) → i < length now
    → LostUpTo before now i → x ≡ get_or now i x → d.uri ≡ x.uri → text_of d ≡ without_text (text_of x)
    → LostUpTo before (set now i d) (i + 1)
one_more_lost before now i x d l lost is named made =
    let within : i < length before = subst (λ n. i < n) lost.lengths l in
    let same : get_or before i x ≡ x = same_first before now i x within l lost.rest ∙ sym is in
    record {
      lengths = length-set now i d ∙ lost.lengths;
      rest = drop-set-lt (i + 1) now i d (omega arith) ∙ drop_more_same now before i lost.rest;
      front = λ u. ap (find u) (take_more_set now i d l)
          ∙ find_append u (take i now) (d ∷ [])
          ∙ ap (λ z. option_or z (find u (d ∷ []))) (lost.front u)
          ∙ ap (option_or (option_map without_text (find u (take i before)))) (one_lost u x d named made)
          ∙ or_lost (find u (take i before)) (find u (x ∷ []))
          ∙ ap (option_map without_text) (sym (find_append u (take i before) (x ∷ [])))
          ∙ ap (λ y. option_map without_text (find u (take i before ++ y ∷ []))) (sym same)
          ∙ ap (λ ys. option_map without_text (find u ys)) (sym (take_more before i x within));
    }

pub all_lost : (before now : List OpenDocument) (i : ℕ) → length now ≤ i → LostUpTo before now i → (u : List ℕ)
    → find u now ≡ option_map without_text (find u before)
all_lost before now i l lost u =
    let m : length before ≤ i = subst (λ n. n ≤ i) lost.lengths l in
    sym (ap (find u) (take_all i now l))
    ∙ lost.front u
    ∙ ap (λ ys. option_map without_text (find u ys)) (take_all i before m)
