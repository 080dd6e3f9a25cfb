-- Events with the notes of their entries filled in: more of them, and a change of one that begins a collection or an
-- entry.
use Rattle.std.proofs.Common.{◌≡◌, ℕ, suc, ◌+◌, List, [], ◌∷◌, ◌++◌, length, Some, refl, ap, ◌∙◌, subst, sym, arith}
use Rattle.yf_events.specs.Event.{EventInText}
use Rattle.yf_events.specs.Edit.{edited, ended, coloned, with_colon}
use Rattle.yf_grammar.specs.Productions.ReadParts.{Noting, floor_after_event}
use Rattle.yf_grammar.specs.Productions.ReadParts.Noting.{no_event, without_entry, with_entry}
use Rattle.yf_block.specs.BlockTied.{floor_after}

pub floor_more : (floor : ℕ) (x z : List EventInText) → floor_after floor (x ++ z) ≡ floor_after (floor_after floor x) z
floor_more floor [] z = refl
floor_more floor (e ∷ x) z = floor_more (floor_after_event floor e e.event) x z

-- a change of an event that is not a block scalar, before and after it
abbrev pub Keeps : (EventInText → EventInText) → EventInText → Type 0
Keeps f e = (floor : ℕ) → floor_after_event floor (f e) (f e).event ≡ floor_after_event floor e e.event

pub floor_kept : (f : EventInText → EventInText) (floor : ℕ) (x : List EventInText) (e : EventInText) (z : List EventInText) → Keeps f e → floor_after floor (x ++ f e ∷ z) ≡ floor_after floor (x ++ e ∷ z)
floor_kept f floor [] e z k = ap (λ h. floor_after h z) (k floor)
floor_kept f floor (a ∷ x) e z k = floor_kept f (floor_after_event floor a a.event) x e z k

pub edited_after : (f : EventInText → EventInText) (w : List EventInText) (i k : ℕ) (y : List EventInText) → k ≡ length w + i → edited f k (w ++ y) ≡ w ++ edited f i y
edited_after f [] i k y e = let same : k ≡ i = omega (arith, e) in ap (λ (z : ℕ). edited f z y) same
edited_after f (a ∷ w) i k y e =
    let same : k ≡ suc (length w + i) = omega (arith, e) in
    ap (λ (z : ℕ). edited f z (a ∷ (w ++ y))) same ∙ ap (λ z. a ∷ z) (edited_after f w i (length w + i) y refl)

module _ {t : List ℕ} where
  pub noting_length : {floor : ℕ} {x y : List EventInText} → Noting t floor x y → length x ≡ length y
  noting_length no_event = refl
  noting_length (without_entry e n) = ap suc (noting_length n)
  noting_length (with_entry entry e b n) = ap suc (noting_length n)

  pub noting_more : {floor : ℕ} {x y z w : List EventInText} → Noting t floor x y → Noting t (floor_after floor x) z w → Noting t floor (x ++ z) (y ++ w)
  noting_more no_event r = r
  noting_more (without_entry e n) r = without_entry e (noting_more n r)
  noting_more (with_entry entry e b n) r = with_entry entry e b (noting_more n r)

  -- the end of a collection, and the colon of an entry
  noting_end : {floor : ℕ} {e : EventInText} {z y : List EventInText} (j : ℕ) → Keeps (ended j) e → Noting t floor (e ∷ z) y → Noting t floor (ended j e ∷ z) (edited (ended j) 0 y)
  noting_end {floor} {z = z} j k (without_entry {y = y} e n) = without_entry e (subst (λ h. Noting t h z y) (sym (k floor)) n)
  noting_end {floor} {z = z} j k (with_entry {y = y} entry e b n) = with_entry entry e b (subst (λ h. Noting t h z y) (sym (k floor)) n)

  pub noting_ended : {floor : ℕ} {y : List EventInText} (x : List EventInText) (e : EventInText) (z : List EventInText) (j : ℕ) → Keeps (ended j) e → Noting t floor (x ++ e ∷ z) y
      → Noting t floor (x ++ ended j e ∷ z) (edited (ended j) (length x) y)
  noting_ended [] a z j k n = noting_end j k n
  noting_ended (a ∷ x) c z j k (without_entry e n) = without_entry e (noting_ended x c z j k n)
  noting_ended (a ∷ x) c z j k (with_entry entry e b n) = with_entry entry e b (noting_ended x c z j k n)

  noting_colon : {floor : ℕ} {e : EventInText} {z y : List EventInText} (j : ℕ) → Noting t floor (e ∷ z) y → Noting t floor (coloned j e ∷ z) (edited (coloned j) 0 y)
  noting_colon j (without_entry e n) = without_entry (ap (λ o. with_colon j o) e) n
  noting_colon j (with_entry entry e b n) = with_entry (record entry { colon = Some j }) (ap (λ o. with_colon j o) e) b n

  pub noting_coloned : {floor : ℕ} {y : List EventInText} (x : List EventInText) (e : EventInText) (z : List EventInText) (j : ℕ) → Noting t floor (x ++ e ∷ z) y → Noting t floor (x ++ coloned j e ∷ z) (edited (coloned j) (length x) y)
  noting_coloned [] a z j n = noting_colon j n
  noting_coloned (a ∷ x) c z j (without_entry e n) = without_entry e (noting_coloned x c z j n)
  noting_coloned (a ∷ x) c z j (with_entry entry e b n) = with_entry entry e b (noting_coloned x c z j n)
