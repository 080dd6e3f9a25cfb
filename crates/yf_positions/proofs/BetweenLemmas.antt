-- The walk along an edit script: its state between two steps.
use Rattle.std.proofs.Common.{◌≡◌, ℕ, ◌+◌, ◌<◌, ◌≤◌, true, false, List, [], ◌∷◌, length, drop, get_or, refl, sym, ap, ◌∙◌, subst, arith}
use Rattle.std.proofs.lemmas.List.{drop_all, drop_more}
use Rattle.yf_diff.specs.Script.{Edit, kept, dropped, added, olds, news, old_part, is_change}
use Rattle.yf_diff.specs.Texts.{lines_of}
use Rattle.yf_diff.specs.Unified.{line_of}
use Rattle.yf_positions.specs.declared.encoding.Encoding.{Encoding}
use Rattle.yf_positions.specs.Edits.{RangeEdit, AfterFeed, EditsReach, edited}
use Rattle.yf_positions.proofs.EditLemmas.{reach_none, reach_kept, reach_end}
use Rattle.yf_positions.proofs.LineParts.{Passed, passed_line, none_left, feed_none}

-- the edits reach from.old and from.new, no line that stays is between these and to.old and to.new, and the steps are
-- left
pub record Between (e : Encoding) (old new : List ℕ) (edits : List RangeEdit) (i j k l : ℕ)
    (steps : List Edit) : Type 0 where
  pub old_order : i ≤ k
  pub new_order : j ≤ l
  pub old_from : AfterFeed old i
  pub new_from : AfterFeed new j
  pub old_to : AfterFeed old k
  pub new_to : AfterFeed new l
  pub reach : EditsReach e old new edits i j
  pub olds : lines_of (drop k old) ≡ olds steps
  pub news : lines_of (drop l new) ≡ news steps

pub between_none : (e : Encoding) (old new : List ℕ) (edits : List RangeEdit) (steps : List Edit) → edits ≡ []
    → olds steps ≡ lines_of old → news steps ≡ lines_of new → Between e old new edits 0 0 0 0 steps
between_none e old new edits steps none o n = record {
  old_order = omega arith;
  new_order = omega arith;
  old_from = feed_none old;
  new_from = feed_none new;
  old_to = feed_none old;
  new_to = feed_none new;
  reach = subst (λ z. EditsReach e old new z 0 0) (sym none) (reach_none e old new);
  olds = sym o;
  news = sym n;
}

kept_line : (e : Encoding) (old new : List ℕ) (edits after : List RangeEdit) (i j k l : ℕ) (line : List ℕ)
    (rest : List Edit) → Between e old new edits i j k l (kept line ∷ rest) → EditsReach e old new after k l
    → Between e old new after (k + length line) (l + length line) (k + length line) (l + length line) rest
kept_line e old new edits after i j k l line rest b reach =
    let o : Passed old k line (olds rest) = passed_line old k line (olds rest) b.old_to.bound b.olds in
    let n : Passed new l line (news rest) = passed_line new l line (news rest) b.new_to.bound b.news in
    record {
      old_order = omega arith;
      new_order = omega arith;
      old_from = o.feed;
      new_from = n.feed;
      old_to = o.feed;
      new_to = n.feed;
      reach = reach_kept e old new after k l (length line) reach (o.front ∙ sym n.front);
      olds = o.later;
      news = n.later;
    }

pub between_kept : (e : Encoding) (old new : List ℕ) (edits after : List RangeEdit) (i j k l n : ℕ) (x : Edit)
    (rest : List Edit) → is_change x ≡ false → n ≡ length (line_of x) → Between e old new edits i j k l (x ∷ rest)
    → EditsReach e old new after k l → Between e old new after (k + n) (l + n) (k + n) (l + n) rest
between_kept e old new edits after i j k l n (kept line) rest is size b reach =
    subst (λ z. Between e old new after (k + z) (l + z) (k + z) (l + z) rest) (sym size)
    (kept_line e old new edits after i j k l line rest b reach)
between_kept e old new edits after i j k l n (dropped line) rest is size b reach = absurd (cc)
between_kept e old new edits after i j k l n (added line) rest is size b reach = absurd (cc)

pub between_dropped : (e : Encoding) (old new : List ℕ) (edits : List RangeEdit) (i j k l n count : ℕ) (x : Edit)
    (rest : List Edit) → is_change x ≡ true → count ≡ length (old_part x) → count ≡ 1 → n ≡ length (line_of x)
    → Between e old new edits i j k l (x ∷ rest) → Between e old new edits i j (k + n) l rest
between_dropped e old new edits i j k l n count (kept line) rest is c one size b = absurd (cc)
between_dropped e old new edits i j k l n count (added line) rest is c one size b = absurd (omega arith)
between_dropped e old new edits i j k l n count (dropped line) rest is c one size b =
    let o : Passed old k line (olds rest) = passed_line old k line (olds rest) b.old_to.bound b.olds in
    let all : Between e old new edits i j (k + length line) l rest = record {
      old_order = omega (arith, b.old_order);
      new_order = b.new_order;
      old_from = b.old_from;
      new_from = b.new_from;
      old_to = o.feed;
      new_to = b.new_to;
      reach = b.reach;
      olds = o.later;
      news = b.news;
    } in
    subst (λ z. Between e old new edits i j (k + z) l rest) (sym size) all

pub between_added : (e : Encoding) (old new : List ℕ) (edits : List RangeEdit) (i j k l n count : ℕ) (x : Edit)
    (rest : List Edit) → is_change x ≡ true → count ≡ length (old_part x) → (count ≡ 1 → ⊥) → n ≡ length (line_of x)
    → Between e old new edits i j k l (x ∷ rest) → Between e old new edits i j k (l + n) rest
between_added e old new edits i j k l n count (kept line) rest is c one size b = absurd (cc)
between_added e old new edits i j k l n count (dropped line) rest is c one size b = absurd (one (c ∙ refl))
between_added e old new edits i j k l n count (added line) rest is c one size b =
    let m : Passed new l line (news rest) = passed_line new l line (news rest) b.new_to.bound b.news in
    let all : Between e old new edits i j k (l + length line) rest = record {
      old_order = b.old_order;
      new_order = omega (arith, b.new_order);
      old_from = b.old_from;
      new_from = b.new_from;
      old_to = b.old_to;
      new_to = m.feed;
      reach = b.reach;
      olds = b.olds;
      news = m.later;
    } in
    subst (λ z. Between e old new edits i j k (l + z) rest) (sym size) all

-- the next step of the script, and its end
pub between_at : (e : Encoding) (old new : List ℕ) (edits : List RangeEdit) (i j k l n : ℕ) (steps : List Edit)
    (x : Edit) → n < length steps → x ≡ get_or steps n x → Between e old new edits i j k l (drop n steps)
    → Between e old new edits i j k l (x ∷ drop (n + 1) steps)
between_at e old new edits i j k l n steps x h is b =
    subst (λ z. Between e old new edits i j k l z)
    (drop_more steps n x h ∙ ap (λ y. y ∷ drop (n + 1) steps) (sym is)) b

-- with no step left, the edits make the whole new text
pub between_end : (e : Encoding) (old new : List ℕ) (edits after : List RangeEdit) (i j k l n : ℕ)
    (steps : List Edit) → length steps ≤ n → Between e old new edits i j k l (drop n steps)
    → EditsReach e old new after k l → edited e old 0 after ≡ new
between_end e old new edits after i j k l n steps h b reach =
    let o : k ≡ length old = none_left old k b.old_to.bound (b.olds ∙ ap olds (drop_all n steps h)) in
    let m : l ≡ length new = none_left new l b.new_to.bound (b.news ∙ ap news (drop_all n steps h)) in
    reach_end e old new after
    (subst (λ z. EditsReach e old new after z (length new)) o (subst (λ z. EditsReach e old new after k z) m reach))
