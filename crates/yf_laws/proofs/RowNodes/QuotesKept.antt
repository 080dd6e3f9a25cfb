-- Notes on blank lines don't change how quoted scalars are written.
use Rattle.std.proofs.Common.{ℕ, List, [], ◌∷◌, ◌++◌, subst}
use Rattle.yf_events.specs.Event.{EventInText, scalar_node}
use Rattle.yf_events.specs.Tree.{Items, Node, Pairs, flat, flat_items, flat_pairs}
use Rattle.yf_grammar.proofs.WrittenTexts.KeptNodes.{Kept, kept_scalar, kept_alias, kept_sequence, kept_mapping, KeptItems, kept_no_items, kept_item, KeptPairs, kept_no_pairs, kept_pair}
use Rattle.yf_forms.specs.declared.style.Style.{Style}
use Rattle.yf_laws.specs.Layouts.WrittenQuotes.{IsQuoteWritten, QuotesWritten, no_quotes, one_quote}
use Rattle.yf_laws.proofs.RowNodes.BareNodes.{bared}
use Rattle.yf_laws.proofs.Writable.WrittenQuotes.{quotes_both}

pub quotes_left : {house : Style} {t : List ℕ} (xs ys : List EventInText) → QuotesWritten house t (xs ++ ys) → QuotesWritten house t xs
quotes_left [] ys a = no_quotes
quotes_left (x ∷ xs) ys (one_quote e a more) = one_quote x a (quotes_left xs ys more)

pub quotes_right : {house : Style} {t : List ℕ} (xs ys : List EventInText) → QuotesWritten house t (xs ++ ys) → QuotesWritten house t ys
quotes_right [] ys a = a
quotes_right (x ∷ xs) ys (one_quote e a more) = quotes_right xs ys more

mutual
  pub quotes_stay : {house : Style} {t : List ℕ} {y z : Node} → Kept y z → QuotesWritten house t (flat y) → QuotesWritten house t (flat z)
  quotes_stay {house} {t} (kept_scalar {props = props} {style = style} {text = text} s) (one_quote e a no_quotes) =
      one_quote _ (subst (λ o. IsQuoteWritten house t (scalar_node props style text) o) s.span a) no_quotes
  quotes_stay (kept_alias s) (one_quote e a no_quotes) = one_quote _ tt no_quotes
  quotes_stay (kept_sequence {xs = xs} s a) (one_quote e b more) = one_quote _ tt (quotes_both (items_stay a (quotes_left (flat_items xs) _ more)) (quotes_right (flat_items xs) _ more))
  quotes_stay (kept_mapping {ps = ps} s a) (one_quote e b more) = one_quote _ tt (quotes_both (pairs_stay a (quotes_left (flat_pairs ps) _ more)) (quotes_right (flat_pairs ps) _ more))

  items_stay : {house : Style} {t : List ℕ} {xs ys : Items} → KeptItems xs ys → QuotesWritten house t (flat_items xs) → QuotesWritten house t (flat_items ys)
  items_stay kept_no_items b = b
  items_stay (kept_item {x = x} {xs = xs} a more) b = quotes_both (quotes_stay a (quotes_left (flat x) (flat_items xs) b)) (items_stay more (quotes_right (flat x) (flat_items xs) b))

  pairs_stay : {house : Style} {t : List ℕ} {ps qs : Pairs} → KeptPairs ps qs → QuotesWritten house t (flat_pairs ps) → QuotesWritten house t (flat_pairs qs)
  pairs_stay kept_no_pairs b = b
  pairs_stay (kept_pair {k = k} {v = v} {ps = ps} a d more) b =
      let rest = quotes_right (flat k) (flat v ++ flat_pairs ps) b in
      quotes_both (quotes_stay a (quotes_left (flat k) (flat v ++ flat_pairs ps) b)) (quotes_both (quotes_stay d (quotes_left (flat v) (flat_pairs ps) rest)) (pairs_stay more (quotes_right (flat v) (flat_pairs ps) rest)))

-- nor does removing all notes
pub quotes_bared : {house : Style} {t : List ℕ} (es : List EventInText) → QuotesWritten house t es → QuotesWritten house t (bared es)
quotes_bared [] a = no_quotes
quotes_bared (x ∷ xs) (one_quote e a more) = one_quote _ a (quotes_bared xs more)

pub quotes_noted : {house : Style} {t : List ℕ} (es : List EventInText) → QuotesWritten house t (bared es) → QuotesWritten house t es
quotes_noted [] a = no_quotes
quotes_noted (x ∷ xs) (one_quote e a more) = one_quote x a (quotes_noted xs more)
