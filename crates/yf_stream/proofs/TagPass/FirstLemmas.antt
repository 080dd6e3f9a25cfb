-- The first of some breaches, when more are found.
use Rattle.std.proofs.Common.{◌≡◌, ℕ, ◌<◌, ◌≤◌, Bool, true, false, List, [], ◌∷◌, ◌++◌, ◌+◌, take, length, get_or, Option, Some, None, refl, sym, ap, ◌∙◌, subst, arith, append_assoc, append-nil}
use Rattle.std.proofs.lemmas.List.Elements.{All-cons, All-nil, All-push, All-weaker, Contains-append_left, Contains-push}
use Rattle.std.proofs.lemmas.List.{take_all, take_more}
use Rattle.yf_stream.specs.TagPass.{FirstOfBoth, FirstOf}
use Rattle.yf_stream.specs.WellFormed.{IsFirst, IsEarlierBreach, breach_if, earlier_place, escape_breaches, same_place}
use Rattle.yf_stream.specs.declared.breaches.Breach.{Breach}
use Rattle.yf_stream.specs.declared.breaches.BreachKind.{BreachKind}
use Rattle.yf_stream.specs.declared.breaches.BreachKind.TheVariants.{EscapeValue}
use Rattle.yf_stream.proofs.Existence.BreachLemmas.{some_none}

pub precedes_itself : (b : Breach) → IsEarlierBreach b b
precedes_itself b = same_place refl (omega arith)

precedes_on : {a b c : Breach} → IsEarlierBreach a b → IsEarlierBreach b c → IsEarlierBreach a c
precedes_on (earlier_place l) (earlier_place m) = earlier_place (omega arith)
precedes_on (earlier_place l) (same_place e m) = earlier_place (omega arith)
precedes_on (same_place e l) (earlier_place m) = earlier_place (omega arith)
precedes_on (same_place e l) (same_place f m) = same_place (e ∙ f) (omega arith)

pub finds_nothing_more : {a : Option Breach} → FirstOfBoth a a []
finds_nothing_more {a} = record { first = λ done f. subst (λ z. FirstOf z a) (sym (append-nil done)) f }

pub finds_then : {a b c : Option Breach} {x y : List Breach} → FirstOfBoth a b x → FirstOfBoth b c y → FirstOfBoth a c (x ++ y)
finds_then {c = c} {x = x} {y = y} p q = record { first = λ done f. subst (λ z. FirstOf z c) (append_assoc done x y) (q.first (done ++ x) (p.first done f)) }

pub finds_kept : {b found : Breach} → IsEarlierBreach b found → FirstOfBoth (Some b) (Some b) (found ∷ [])
finds_kept {b} {found} p = record {
  first = λ done f. record { among = Contains-append_left done (found ∷ []) b f.among; all = All-push (IsEarlierBreach b) done found f.all p };
}

pub finds_new : {b found : Breach} → IsEarlierBreach found b → FirstOfBoth (Some b) (Some found) (found ∷ [])
finds_new {b} {found} p = record {
  first = λ done f.
      record {
        among = Contains-push done found;
        all = All-push (IsEarlierBreach found) done found (All-weaker (IsEarlierBreach b) (IsEarlierBreach found) (λ x q. precedes_on p q) done f.all) (precedes_itself found);
      };
}

alone : (b : Breach) → IsFirst (b ∷ []) b
alone b = record { among = Contains-push [] b; all = All-cons (IsEarlierBreach b) b [] (precedes_itself b) (All-nil (IsEarlierBreach b)) }

pub finds_first : {found : Breach} → FirstOfBoth None (Some found) (found ∷ [])
finds_first {found} = record { first = λ done e. subst (λ z. IsFirst (z ++ found ∷ []) found) (sym e) (alone found) }

pub finds_if : {a : Option Breach} (test : Bool) (kind : BreachKind) (offset : ℕ) → test ≡ false → FirstOfBoth a a (breach_if test kind offset)
finds_if {a} test kind offset e = subst (λ z. FirstOfBoth a a (breach_if z kind offset)) (sym e) finds_nothing_more

pub finds_as : {a b : Option Breach} {x y : List Breach} → x ≡ y → FirstOfBoth a b x → FirstOfBoth a b y
finds_as {a} {b} e f = subst (λ z. FirstOfBoth a b z) e f

-- if nothing was found in the end, nothing was found before
pub found_nothing : {a b : Option Breach} {x : List Breach} → b ≡ None → FirstOfBoth a b x → (a ≡ None) × (x ≡ [])
found_nothing {a} {b} {x} e p = go a (subst (λ z. FirstOfBoth a z x) e p) where
  go : (a : Option Breach) → FirstOfBoth a None x → (a ≡ None) × (x ≡ [])
  go None p = (refl, p.first [] refl)
  go (Some b) p = some_none (p.first (b ∷ []) (alone b))

-- escapes in sequence
pub escapes_join : (a b : List ℕ) → escape_breaches (a ++ b) ≡ escape_breaches a ++ escape_breaches b
escapes_join [] b = refl
escapes_join (x ∷ a) b = ap (λ z. record { offset = x; kind = EscapeValue } ∷ z) (escapes_join a b)

pub escapes_begin : {a : Option Breach} (xs : List ℕ) → FirstOfBoth a a (escape_breaches (take 0 xs))
escapes_begin [] = finds_nothing_more
escapes_begin (x ∷ xs) = finds_nothing_more

pub escape_more : {a b c : Option Breach} (xs : List ℕ) (i d : ℕ) → i < length xs → FirstOfBoth a b (escape_breaches (take i xs))
    → FirstOfBoth b c (breach_if true EscapeValue (get_or xs i d)) → FirstOfBoth a c (escape_breaches (take (i + 1) xs))
escape_more {a} {c = c} xs i d l p q =
    finds_as (sym (escapes_join (take i xs) (get_or xs i d ∷ [])) ∙ ap escape_breaches (sym (take_more xs i d l))) (finds_then p q)

pub escapes_end : {a b : Option Breach} (xs : List ℕ) (i : ℕ) → length xs ≤ i → FirstOfBoth a b (escape_breaches (take i xs)) → FirstOfBoth a b (escape_breaches xs)
escapes_end xs i l p = finds_as (ap escape_breaches (take_all i xs l)) p
