-- The text after edits, one more edit or line at a time.
use Rattle.std.proofs.Common.{◌≡◌, ℕ, ◌+◌, ◌-◌, ◌<◌, ◌≤◌, true, false, ◌&&◌, List, [], ◌∷◌, ◌++◌, length, take, drop, get_or, slice_range, refl, sym, ap, ◌∙◌, subst, arith, eqb, leb, append_assoc, append-nil, take-add, drop-drop, take_all}
use Rattle.std.proofs.lemmas.Bool.{and_parts, and_from, eq-eqb, le-leb, lt-leb}
use Rattle.std.proofs.lemmas.List.{drop_more, take_rest}
use Rattle.yf_positions.specs.declared.encoding.Encoding.{Encoding}
use Rattle.yf_positions.specs.declared.text_edit.Offsets.{Offsets}
use Rattle.yf_positions.specs.Edits.{RangeEdit, edit_start, edit_end, in_order, is_empty, edited, edited_front, last_end, EditsReach}

front_whole : (e : Encoding) (t : List ℕ) (at : ℕ) (edits : List RangeEdit)
    → edited e t at edits ≡ edited_front e t at edits ++ drop (last_end e t at edits) t
front_whole e t at [] = refl
front_whole e t at (x ∷ rest) =
    let later = drop (last_end e t (edit_end e t x) rest) t in
    let front = edited_front e t (edit_end e t x) rest in
    ap (λ z. slice_range t at (edit_start e t x) ++ (x.text ++ z)) (front_whole e t (edit_end e t x) rest)
    ∙ ap (λ z. slice_range t at (edit_start e t x) ++ z) (sym (append_assoc x.text front later))
    ∙ sym (append_assoc (slice_range t at (edit_start e t x)) (x.text ++ front) later)

front_push : (e : Encoding) (t : List ℕ) (at : ℕ) (edits : List RangeEdit) (x : RangeEdit)
    → edited_front e t at (edits ++ x ∷ []) ≡ edited_front e t at edits ++
    (slice_range t (last_end e t at edits) (edit_start e t x) ++ x.text)
front_push e t at [] x = ap (λ z. slice_range t at (edit_start e t x) ++ z) (append-nil x.text)
front_push e t at (y ∷ rest) x =
    let front = edited_front e t (edit_end e t y) rest in
    let last = slice_range t (last_end e t (edit_end e t y) rest) (edit_start e t x) ++ x.text in
    ap (λ z. slice_range t at (edit_start e t y) ++ (y.text ++ z)) (front_push e t (edit_end e t y) rest x)
    ∙ ap (λ z. slice_range t at (edit_start e t y) ++ z) (sym (append_assoc y.text front last))
    ∙ sym (append_assoc (slice_range t at (edit_start e t y)) (y.text ++ front) last)

last_push : (e : Encoding) (t : List ℕ) (at : ℕ) (edits : List RangeEdit) (x : RangeEdit)
    → last_end e t at (edits ++ x ∷ []) ≡ edit_end e t x
last_push e t at [] x = refl
last_push e t at (y ∷ rest) x = last_push e t (edit_end e t y) rest x

order_push : (e : Encoding) (t : List ℕ) (at : ℕ) (edits : List RangeEdit) (x : RangeEdit)
    → in_order e t at edits ≡ true → last_end e t at edits ≤ edit_start e t x → edit_start e t x ≤ edit_end e t x
    → in_order e t at (edits ++ x ∷ []) ≡ true
order_push e t at [] x o a b = rw (le-leb at (edit_start e t x) a, le-leb (edit_start e t x) (edit_end e t x) b) refl
order_push e t at (y ∷ rest) x o a b =
    let outer = and_parts (leb at (edit_start e t y))
    (leb (edit_start e t y) (edit_end e t y) && in_order e t (edit_end e t y) rest) o in
    let inner = and_parts (leb (edit_start e t y) (edit_end e t y)) (in_order e t (edit_end e t y) rest) outer.1 in
    and_from (leb at (edit_start e t y)) (leb (edit_start e t y) (edit_end e t y) && in_order e t (edit_end e t y)
    (rest ++ x ∷ [])) outer.0
    (and_from (leb (edit_start e t y) (edit_end e t y)) (in_order e t (edit_end e t y) (rest ++ x ∷ [])) inner.0
    (order_push e t (edit_end e t y) rest x inner.1 a b))

-- a stretch made longer
pub slice_more : (t : List ℕ) (a b c : ℕ) → a ≤ b → b ≤ c → slice_range t a c ≡ slice_range t a b ++ slice_range t b c
slice_more t a b c h i =
    let size : c - a ≡ (b - a) + (c - b) = omega arith in
    let place : a + (b - a) ≡ b = omega arith in
    ap (λ n. take n (drop a t)) size
    ∙ take-add (b - a) (c - b) (drop a t)
    ∙ ap (λ z. take (b - a) (drop a t) ++ take (c - b) z) (drop-drop (b - a) a t ∙ ap (λ k. drop k t) place)

front_more : (t : List ℕ) (b c : ℕ) → b ≤ c → take c t ≡ take b t ++ slice_range t b c
front_more t b c h =
    let size : c ≡ b + (c - b) = omega arith in
    ap (λ n. take n t) size ∙ take-add b (c - b) t

pub slice_none : (t : List ℕ) (i : ℕ) → slice_range t i i ≡ []
slice_none t i = let none : i - i ≡ 0 = omega arith in ap (λ n. take n (drop i t)) none

-- no edit, and one more
pub reach_none : (e : Encoding) (old new : List ℕ) → EditsReach e old new [] 0 0
reach_none e old new = record { order = refl; passed = omega arith; text = slice_none old 0 }

pub reach_push : (e : Encoding) (old new : List ℕ) (edits after : List RangeEdit) (x : RangeEdit) (i j k l : ℕ)
    → EditsReach e old new edits i j → i ≤ k → j ≤ l → edit_start e old x ≡ i → edit_end e old x ≡ k
    → x.text ≡ slice_range new j l → after ≡ edits ++ x ∷ [] → EditsReach e old new after k l
reach_push e old new edits after x i j k l reach a b start stop text made =
    let at = last_end e old 0 edits in
    let passed : last_end e old 0 edits ≤ edit_start e old x = omega (arith, reach.passed) in
    let order : in_order e old 0 (edits ++ x ∷ []) ≡ true =
    order_push e old 0 edits x reach.order passed (omega arith) in
    let last : last_end e old 0 (edits ++ x ∷ []) ≡ k = last_push e old 0 edits x ∙ stop in
    let front : edited_front e old 0 (edits ++ x ∷ []) ≡ take l new =
    front_push e old 0 edits x
    ∙ ap (λ z. edited_front e old 0 edits ++ (slice_range old (last_end e old 0 edits) z ++ x.text)) start
    ∙ sym (append_assoc (edited_front e old 0 edits) (slice_range old (last_end e old 0 edits) i) x.text)
    ∙ ap (λ z. z ++ x.text) reach.text
    ∙ ap (λ z. take j new ++ z) text
    ∙ sym (front_more new j l b) in
    subst (λ z. EditsReach e old new z k l) (sym made) (record {
      order = order;
      passed = omega arith;
      text = ap (λ z. z ++ slice_range old (last_end e old 0 (edits ++ x ∷ [])) k) front
          ∙ ap (λ z. take l new ++ slice_range old z k) last ∙ ap (λ z. take l new ++ z) (slice_none old k)
          ∙ append-nil (take l new);
    })

-- a line that stays
pub reach_kept : (e : Encoding) (old new : List ℕ) (edits : List RangeEdit) (i j n : ℕ)
    → EditsReach e old new edits i j → take n (drop i old) ≡ take n (drop j new)
    → EditsReach e old new edits (i + n) (j + n)
reach_kept e old new edits i j n reach same =
    let a : i + n - i ≡ n = omega arith in
    let b : j + n - j ≡ n = omega arith in
    let front = edited_front e old 0 edits in
    let part = slice_range old (last_end e old 0 edits) i in
    record {
      order = reach.order;
      passed = omega (arith, reach.passed);
      text = ap (λ z. front ++ z) (slice_more old (last_end e old 0 edits) i (i + n) reach.passed (omega arith))
          ∙ sym (append_assoc front part (slice_range old i (i + n)))
          ∙ ap (λ z. z ++ slice_range old i (i + n)) reach.text
          ∙ ap (λ z. take j new ++ z) (ap (λ m. take m (drop i old)) a ∙ same ∙ ap (λ m. take m (drop j new)) (sym b))
          ∙ sym (front_more new j (j + n) (omega arith));
    }

-- at the ends of both texts all is made
pub reach_end : (e : Encoding) (old new : List ℕ) (edits : List RangeEdit)
    → EditsReach e old new edits (length old) (length new) → edited e old 0 edits ≡ new
reach_end e old new edits reach =
    front_whole e old 0 edits
    ∙ ap (λ z. edited_front e old 0 edits ++ z) (sym (take_rest old (last_end e old 0 edits)))
    ∙ reach.text
    ∙ take_all (length new) new (omega arith)

-- one more edit is made
edit_first : (edits : List RangeEdit) (i : ℕ) (x : RangeEdit) → i < length edits → x ≡ get_or edits i x
    → drop i edits ≡ x ∷ drop (i + 1) edits
edit_first edits i x l is = drop_more edits i x l ∙ ap (λ y. y ∷ drop (i + 1) edits) (sym is)

pub edited_more : (e : Encoding) (t : List ℕ) (at i : ℕ) (edits : List RangeEdit) (x : RangeEdit) → i < length edits
    → x ≡ get_or edits i x
    → edited e t at (drop i edits)
    ≡ slice_range t at (edit_start e t x) ++ (x.text ++ edited e t (edit_end e t x) (drop (i + 1) edits))
edited_more e t at i edits x l is = ap (edited e t at) (edit_first edits i x l is)

pub order_more : (e : Encoding) (t : List ℕ) (at i : ℕ) (edits : List RangeEdit) (x : RangeEdit) → i < length edits
    → x ≡ get_or edits i x → at ≤ edit_start e t x → edit_start e t x ≤ edit_end e t x
    → in_order e t at (drop i edits) ≡ in_order e t (edit_end e t x) (drop (i + 1) edits)
order_more e t at i edits x l is a b =
    ap (in_order e t at) (edit_first edits i x l is)
    ∙ (rw (le-leb at (edit_start e t x) a, le-leb (edit_start e t x) (edit_end e t x) b) refl)

pub order_before : (e : Encoding) (t : List ℕ) (at i : ℕ) (edits : List RangeEdit) (x : RangeEdit) → i < length edits
    → x ≡ get_or edits i x → edit_start e t x < at → in_order e t at (drop i edits) ≡ false
order_before e t at i edits x l is a =
    ap (in_order e t at) (edit_first edits i x l is) ∙ (rw (lt-leb at (edit_start e t x) a) refl)

pub order_reversed : (e : Encoding) (t : List ℕ) (at i : ℕ) (edits : List RangeEdit) (x : RangeEdit)
    → i < length edits → x ≡ get_or edits i x → at ≤ edit_start e t x → edit_end e t x < edit_start e t x
    → in_order e t at (drop i edits) ≡ false
order_reversed e t at i edits x l is a b =
    ap (in_order e t at) (edit_first edits i x l is)
    ∙ (rw (le-leb at (edit_start e t x) a, lt-leb (edit_start e t x) (edit_end e t x) b) refl)

pub made_more : (e : Encoding) (t : List ℕ) (at end i : ℕ) (edits : List RangeEdit) (x : RangeEdit)
    (was one two part text all : List ℕ) → i < length edits → x ≡ get_or edits i x → end ≡ edit_end e t x
    → part ≡ slice_range t at (edit_start e t x) → text ≡ x.text → one ≡ was ++ part → two ≡ one ++ text
    → was ++ edited e t at (drop i edits) ≡ all → two ++ edited e t end (drop (i + 1) edits) ≡ all
made_more e t at end i edits x was one two part text all l is stop p q a b h =
    let later = edited e t end (drop (i + 1) edits) in
    let next : edited e t at (drop i edits) ≡ part ++ (text ++ edited e t end (drop (i + 1) edits)) =
    edited_more e t at i edits x l is
    ∙ ap (λ z. z ++ (x.text ++ edited e t (edit_end e t x) (drop (i + 1) edits))) (sym p)
    ∙ ap (λ z. part ++ (z ++ edited e t (edit_end e t x) (drop (i + 1) edits))) (sym q)
    ∙ ap (λ z. part ++ (text ++ edited e t z (drop (i + 1) edits))) (sym stop) in
    ap (λ z. z ++ later) (b ∙ ap (λ z. z ++ text) a)
    ∙ append_assoc (was ++ part) text later
    ∙ append_assoc was part (text ++ later)
    ∙ ap (λ z. was ++ z) (sym next)
    ∙ h

-- two offsets between which something goes or comes
pub apart : (from to : Offsets) → is_empty from to ≡ false → from.old ≡ to.old → from.new ≡ to.new → ⊥
apart from to h p q =
    let both : is_empty from to ≡ true =
    and_from (eqb from.old to.old) (eqb from.new to.new) (eq-eqb from.old to.old p) (eq-eqb from.new to.new q) in
    let clash : true ≡ false = sym both ∙ h in
    absurd (cc)

pub ruleset edit_steps = (order_before, order_reversed)
