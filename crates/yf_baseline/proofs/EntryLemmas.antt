-- The entries so far, and those of the remaining findings, are all entries.
use Rattle.std.proofs.Common.{◌≡◌, ℕ, ◌+◌, ◌^◌, ◌<◌, ◌≤◌, List, [], ◌∷◌, ◌++◌, length, map, drop, get_or, String}
use Rattle.std.proofs.Common.{refl, sym, ap, ◌∙◌, subst, arith, append_assoc, append-nil, length-append}
use Rattle.std.specs.Prelude.{bytes_eq}
use Rattle.std.specs.BTreeMap.{BTreeMap, IsEmpty}
use Rattle.std.proofs.lemmas.List.{drop_all, drop_more}
use Rattle.std.proofs.lemmas.List.Sums.{count_by-le-length}
use Rattle.yf_baseline.specs.SeenTexts.{IsCounted, CountsOneMore, count_of, occurrences}
use Rattle.yf_baseline.specs.Entries.{Kept, entries_of, entries_after, entry_at, kept, kept_of, line_hash, mark}
use Rattle.yf_baseline.specs.declared.entry.Entry.{Entry}
use Rattle.yf_baseline.specs.declared.entry.Found.{Found}
use Rattle.yf_baseline.proofs.CountLemmas.{counts_more}

abbrev pub left : List ℕ → List (List ℕ) → List Found → List Entry
left file seen findings = entries_after file seen (map kept_of findings)

pub record SoFar {Y : Type 0} (file : List ℕ) (found : List Entry) (counts : BTreeMap (String Y) ℕ)
    (i : ℕ) (findings : List Found) : Type 0 where
  pub seen : List (List ℕ)
  pub seen_len : length seen ≡ i
  pub counted : IsCounted counts seen
  pub rest : found ++ left file seen (drop i findings) ≡ entries_of file (map kept_of findings)

pub so_far_none : {Y : Type 0} (file : List ℕ) (found : List Entry) (counts : BTreeMap (String Y) ℕ)
    (findings : List Found) → found ≡ [] → IsEmpty counts → SoFar file found counts 0 findings
so_far_none file found counts findings none empty = record {
  seen = [];
  seen_len = refl;
  counted = λ text. rw empty refl;
  rest = ap (λ l. l ++ left file [] findings) none;
}

pub same_kept : (f : Found) (hash : List ℕ) → hash ≡ line_hash f.text.now → kept f.rule.now hash ≡ kept_of f
same_kept f hash e = ap (kept f.rule.now) e

pub so_far_more : {Y : Type 0} (file : List ℕ) (found more : List Entry)
    (old new : BTreeMap (String Y) ℕ) (i : ℕ) (findings : List Found) (d : Found) (k : Kept) (entry : Entry) →
    SoFar file found old i findings → i < length findings → k ≡ kept_of (get_or findings i d) →
    entry ≡ entry_at file k (count_of old (mark k)) → CountsOneMore old new (mark k) → more ≡ found ++ entry ∷ [] →
    SoFar file more new (i + 1) findings
so_far_more file found more old new i findings d k entry so_far within same is counted pushed =
    let rest = left file (so_far.seen ++ mark k ∷ []) (drop (i + 1) findings) in
    let next : entry_at file k (occurrences (mark k) so_far.seen) ∷ rest ≡ left file so_far.seen (drop i findings) =
    subst
    (λ x. entry_at file x (occurrences (mark x) so_far.seen)
    ∷ left file (so_far.seen ++ mark x ∷ []) (drop (i + 1) findings) ≡ left file so_far.seen (drop i findings))
    (sym same)
    (ap (λ l. left file so_far.seen l) (sym (drop_more findings i d within))) in
    let here : entry ≡ entry_at file k (occurrences (mark k) so_far.seen) =
    is ∙ ap (λ n. entry_at file k n) (so_far.counted (mark k)) in
    record {
      seen = so_far.seen ++ mark k ∷ [];
      seen_len = omega (arith, length-append so_far.seen (mark k ∷ []), so_far.seen_len);
      counted = counts_more old new (mark k) so_far.seen so_far.counted counted;
      rest = ap (λ l. l ++ rest) pushed ∙ append_assoc found (entry ∷ []) rest ∙ ap (λ e. found ++ (e ∷ rest)) here
          ∙ ap (λ l. found ++ l) next ∙ so_far.rest;
    }

-- a mark came at most as often as there were findings before
pub room_for_one : {Y : Type 0} (file : List ℕ) (found : List Entry) (counts : BTreeMap (String Y) ℕ)
    (i : ℕ) (findings : List Found) (text : List ℕ) → SoFar file found counts i findings → i + 1 < 2 ^ 64 →
    count_of counts text + 1 < 2 ^ 64
room_for_one file found counts i findings text so_far small =
    omega (arith, so_far.counted text, so_far.seen_len, count_by-le-length (λ other. bytes_eq text other) so_far.seen)

pub so_far_all : {Y : Type 0} (file : List ℕ) (found : List Entry) (counts : BTreeMap (String Y) ℕ)
    (i : ℕ) (findings : List Found) → SoFar file found counts i findings → length findings ≤ i →
    found ≡ entries_of file (map kept_of findings)
so_far_all file found counts i findings so_far over =
    sym (ap (λ l. found ++ left file so_far.seen l) (drop_all i findings over) ∙ append-nil found) ∙ so_far.rest
