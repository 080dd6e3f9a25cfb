-- The edits are those of the script.
use Rattle.std.proofs.Common.{◌≡◌, ℕ, ◌+◌, ◌-◌, ◌<◌, ◌≤◌, true, false, List, [], ◌∷◌, ◌++◌, length, take, drop, get_or, slice_range, refl, sym, ap, ◌∙◌, subst, arith, append_assoc, append-nil, length-append}
use Rattle.std.proofs.lemmas.Bool.{and_from, and_parts}
use Rattle.std.proofs.lemmas.List.{drop_all, drop_more}
use Rattle.yf_diff.specs.Script.{Edit, kept, dropped, added, olds, news, old_part, new_part, is_change}
use Rattle.yf_diff.specs.Texts.{lines_of}
use Rattle.yf_diff.specs.Unified.{line_of}
use Rattle.yf_positions.specs.declared.encoding.Encoding.{Encoding}
use Rattle.yf_positions.specs.declared.text_edit.Offsets.{Offsets}
use Rattle.yf_positions.specs.Edits.{AfterFeed, EditsReach, RangeEdit, EditsFollow, follow_end, follow_kept, follow_edit, AddsEdit, no_edit, one_edit, edit_end, all_changes, text_of, EditsOfScript}
use Rattle.yf_positions.proofs.EditLemmas.{slice_more, slice_none}
use Rattle.yf_positions.proofs.LineParts.{Passed, passed_line}
use Rattle.yf_positions.proofs.BetweenLemmas.{Between}

olds_push : (run : List Edit) (x : Edit) → olds (run ++ x ∷ []) ≡ olds run ++ old_part x
olds_push [] x = append-nil (old_part x)
olds_push (y ∷ run) x = ap (λ z. old_part y ++ z) (olds_push run x)
    ∙ sym (append_assoc (old_part y) (olds run) (old_part x))

news_push : (run : List Edit) (x : Edit) → news (run ++ x ∷ []) ≡ news run ++ new_part x
news_push [] x = append-nil (new_part x)
news_push (y ∷ run) x = ap (λ z. new_part y ++ z) (news_push run x)
    ∙ sym (append_assoc (new_part y) (news run) (new_part x))

text_joined : (a b : List (List ℕ)) → text_of (a ++ b) ≡ text_of a ++ text_of b
text_joined [] b = refl
text_joined (x ∷ a) b = ap (λ z. x ++ z) (text_joined a b) ∙ sym (append_assoc x (text_of a) (text_of b))

text_push : (a : List (List ℕ)) (line : List ℕ) → text_of (a ++ line ∷ []) ≡ text_of a ++ line
text_push a line = text_joined a (line ∷ []) ∙ ap (λ z. text_of a ++ z) (append-nil line)

changes_push : (run : List Edit) (x : Edit) → all_changes run ≡ true → is_change x ≡ true
    → all_changes (run ++ x ∷ []) ≡ true
changes_push [] x h c = and_from (is_change x) true c refl
changes_push (y ∷ run) x h c =
    let parts = and_parts (is_change y) (all_changes run) h in
    and_from (is_change y) (all_changes (run ++ x ∷ [])) parts.0 (changes_push run x parts.1 c)

-- a run with a step is not empty
never_empty : (run : List Edit) (x : Edit) → run ++ x ∷ [] ≡ [] → ⊥
never_empty [] x h = absurd (cc)
never_empty (y ∷ run) x h = absurd (cc)

-- the state since the last kept line: the steps so far, and the result if the remaining edits follow the script
pub record Follows (e : Encoding) (old new : List ℕ) (edits : List RangeEdit) (from to : Offsets)
    (all steps : List Edit) : Type 0 where
  pub run : List Edit
  pub changes : all_changes run ≡ true
  pub none : from.old ≡ to.old → from.new ≡ to.new → run ≡ []
  pub some_old : run ≡ [] → from.old ≡ to.old
  pub some_new : run ≡ [] → from.new ≡ to.new
  pub gone : to.old ≡ from.old + length (text_of (olds run))
  pub come : slice_range new from.new to.new ≡ text_of (news run)
  pub follow : (more : List RangeEdit) → EditsFollow e old from.old (run ++ steps) more
      → EditsFollow e old 0 all (edits ++ more)

abbrev pub both : ℕ → ℕ → Offsets
both i j = record { old = i; new = j }

pub follows_none : (e : Encoding) (old new : List ℕ) (edits : List RangeEdit) (steps : List Edit) → edits ≡ []
    → Follows e old new edits (both 0 0) (both 0 0) steps steps
follows_none e old new edits steps none = record {
  run = [];
  changes = refl;
  none = λ a b. refl;
  some_old = λ _. refl;
  some_new = λ _. refl;
  gone = refl;
  come = slice_none new 0;
  follow = λ more h. subst (λ z. EditsFollow e old 0 steps (z ++ more)) (sym none) h;
}

regroup : (e : Encoding) (old : List ℕ) (at : ℕ) (run rest : List Edit) (x : Edit) (more : List RangeEdit)
    → EditsFollow e old at ((run ++ x ∷ []) ++ rest) more → EditsFollow e old at (run ++ x ∷ rest) more
regroup e old at run rest x more h = subst (λ z. EditsFollow e old at z more) (append_assoc run (x ∷ []) rest) h

pub follows_dropped : (e : Encoding) (old new : List ℕ) (edits : List RangeEdit) (i j k l n count : ℕ)
    (all : List Edit) (x : Edit) (rest : List Edit) → is_change x ≡ true → count ≡ length (old_part x) → count ≡ 1
    → n ≡ length (line_of x) → Between e old new edits i j k l (x ∷ rest)
    → Follows e old new edits (both i j) (both k l) all (x ∷ rest)
    → Follows e old new edits (both i j) (both (k + n) l) all rest
follows_dropped e old new edits i j k l n count all (kept line) rest is c one size b f = absurd (cc)
follows_dropped e old new edits i j k l n count all (added line) rest is c one size b f = absurd (omega arith)
follows_dropped e old new edits i j k l n count all (dropped line) rest is c one size b f =
    let o : Passed old k line (olds rest) = passed_line old k line (olds rest) b.old_to.bound b.olds in
    let some : 0 < length line = o.some in
    let order : i ≤ k = b.old_order in
    let gone : k ≡ i + length (text_of (olds f.run)) = f.gone in
    let lines : length (text_of (olds (f.run ++ dropped line ∷ []))) ≡ length (text_of (olds f.run)) + length line =
    ap (λ z. length (text_of z)) (olds_push f.run (dropped line)) ∙ ap length (text_push (olds f.run) line)
    ∙ length-append (text_of (olds f.run)) line in
    record {
      run = f.run ++ dropped line ∷ [];
      changes = changes_push f.run (dropped line) f.changes refl;
      none = λ same _. absurd (omega arith);
      some_old = λ empty. absurd (never_empty f.run (dropped line) empty);
      some_new = λ empty. absurd (never_empty f.run (dropped line) empty);
      gone = omega arith;
      come = f.come ∙ ap text_of (sym (append-nil (news f.run)) ∙ sym (news_push f.run (dropped line)));
      follow = λ more h. f.follow more (regroup e old i f.run rest (dropped line) more h);
    }

pub follows_added : (e : Encoding) (old new : List ℕ) (edits : List RangeEdit) (i j k l n count : ℕ) (all : List Edit)
    (x : Edit) (rest : List Edit) → is_change x ≡ true → count ≡ length (old_part x) → (count ≡ 1 → ⊥)
    → n ≡ length (line_of x) → Between e old new edits i j k l (x ∷ rest)
    → Follows e old new edits (both i j) (both k l) all (x ∷ rest)
    → Follows e old new edits (both i j) (both k (l + n)) all rest
follows_added e old new edits i j k l n count all (kept line) rest is c one size b f = absurd (cc)
follows_added e old new edits i j k l n count all (dropped line) rest is c one size b f = absurd (one (c ∙ refl))
follows_added e old new edits i j k l n count all (added line) rest is c one size b f =
    let m : Passed new l line (news rest) = passed_line new l line (news rest) b.new_to.bound b.news in
    let some : 0 < length line = m.some in
    let order : j ≤ l = b.new_order in
    let shift : l + n - l ≡ length line = omega arith in
    let last : slice_range new l (l + n) ≡ line = ap (λ k. take k (drop l new)) shift ∙ m.front in
    record {
      run = f.run ++ added line ∷ [];
      changes = changes_push f.run (added line) f.changes refl;
      none = λ _ same. absurd (omega arith);
      some_old = λ empty. absurd (never_empty f.run (added line) empty);
      some_new = λ empty. absurd (never_empty f.run (added line) empty);
      gone = f.gone ∙ ap (λ z. i + length (text_of z)) (sym (append-nil (olds f.run))
          ∙ sym (olds_push f.run (added line)));
      come = slice_more new j l (l + n) b.new_order (omega arith)
          ∙ ap (λ z. z ++ slice_range new l (l + n)) f.come
          ∙ ap (λ z. text_of (news f.run) ++ z) last
          ∙ sym (text_push (news f.run) line)
          ∙ ap text_of (sym (news_push f.run (added line)));
      follow = λ more h. f.follow more (regroup e old i f.run rest (added line) more h);
    }

-- after the edit of a run, the rest of the script is followed
after_run : (e : Encoding) (old new : List ℕ) (edits after : List RangeEdit) (i j k l : ℕ) (all rest : List Edit)
    → AddsEdit e old (slice_range new j l) (both i j) (both k l) edits after
    → Follows e old new edits (both i j) (both k l) all rest → (more : List RangeEdit) → EditsFollow e old k rest more
    → EditsFollow e old 0 all (after ++ more)
after_run e old new edits after i j k l all rest (no_edit p q is) f more h =
    let none : f.run ≡ [] = f.none p q in
    let here : EditsFollow e old i rest more = subst (λ z. EditsFollow e old z rest more) (sym p) h in
    let run : EditsFollow e old i (f.run ++ rest) more =
    subst (λ z. EditsFollow e old i (z ++ rest) more) (sym none) here in
    subst (λ z. EditsFollow e old 0 all (z ++ more)) (sym is) (f.follow more run)
after_run e old new edits after i j k l all rest (one_edit x apart start stop text is) f more h =
    let end : edit_end e old x ≡ i + length (text_of (olds f.run)) = stop ∙ f.gone in
    let later : EditsFollow e old (i + length (text_of (olds f.run))) rest more =
    subst (λ z. EditsFollow e old z rest more) f.gone h in
    let run : EditsFollow e old i (f.run ++ rest) (x ∷ more) =
    follow_edit f.run x (λ empty. apart (f.some_old empty) (f.some_new empty))
    f.changes start end (text ∙ f.come) later in
    subst (λ z. EditsFollow e old 0 all z) (sym (ap (λ z. z ++ more) is ∙ append_assoc edits (x ∷ []) more))
    (f.follow (x ∷ more) run)

pub follows_kept : (e : Encoding) (old new : List ℕ) (edits after : List RangeEdit) (i j k l n : ℕ) (all : List Edit)
    (x : Edit) (rest : List Edit) → is_change x ≡ false → n ≡ length (line_of x)
    → AddsEdit e old (slice_range new j l) (both i j) (both k l) edits after
    → Follows e old new edits (both i j) (both k l) all (x ∷ rest)
    → Follows e old new after (both (k + n) (l + n)) (both (k + n) (l + n)) all rest
follows_kept e old new edits after i j k l n all (dropped line) rest is size adds f = absurd (cc)
follows_kept e old new edits after i j k l n all (added line) rest is size adds f = absurd (cc)
follows_kept e old new edits after i j k l n all (kept line) rest is size adds f = record {
  run = [];
  changes = refl;
  none = λ a b. refl;
  some_old = λ _. refl;
  some_new = λ _. refl;
  gone = omega arith;
  come = slice_none new (l + n);
  follow = λ more h. after_run e old new edits after i j k l all (kept line ∷ rest) adds f more
      (follow_kept (subst (λ z. EditsFollow e old (k + z) rest more) size h));
}

pub follows_end : (e : Encoding) (old new : List ℕ) (edits after : List RangeEdit) (i j k l n : ℕ) (all : List Edit)
    → length all ≤ n → AddsEdit e old (slice_range new j l) (both i j) (both k l) edits after
    → Follows e old new edits (both i j) (both k l) all (drop n all) → EditsFollow e old 0 all after
follows_end e old new edits after i j k l n all h adds f =
    let none : drop n all ≡ [] = drop_all n all h in
    let end : EditsFollow e old k (drop n all) [] = subst (λ z. EditsFollow e old k z []) (sym none) follow_end in
    subst (λ z. EditsFollow e old 0 all z) (append-nil after)
    (after_run e old new edits after i j k l all (drop n all) adds f [] end)

-- the next step
pub follows_at : (e : Encoding) (old new : List ℕ) (edits : List RangeEdit) (from to : Offsets) (n : ℕ)
    (all : List Edit) (x : Edit) → n < length all → x ≡ get_or all n x
    → Follows e old new edits from to all (drop n all) → Follows e old new edits from to all (x ∷ drop (n + 1) all)
follows_at e old new edits from to n all x h is f =
    subst (λ z. Follows e old new edits from to all z)
    (drop_more all n x h ∙ ap (λ y. y ∷ drop (n + 1) all) (sym is)) f

-- both together, as the loop over the steps keeps it
pub record Walk (e : Encoding) (old new : List ℕ) (edits : List RangeEdit) (i j k l : ℕ)
    (all steps : List Edit) : Type 0 where
  pub old_order : i ≤ k
  pub new_order : j ≤ l
  pub old_from : AfterFeed old i
  pub new_from : AfterFeed new j
  pub old_to : AfterFeed old k
  pub new_to : AfterFeed new l
  pub reach : EditsReach e old new edits i j
  pub olds : lines_of (drop k old) ≡ olds steps
  pub news : lines_of (drop l new) ≡ news steps
  pub follows : Follows e old new edits (both i j) (both k l) all steps

pub between_of : (e : Encoding) (old new : List ℕ) (edits : List RangeEdit) (i j k l : ℕ) (all steps : List Edit)
    → Walk e old new edits i j k l all steps → Between e old new edits i j k l steps
between_of e old new edits i j k l all steps w = record {
  old_order = w.old_order;
  new_order = w.new_order;
  old_from = w.old_from;
  new_from = w.new_from;
  old_to = w.old_to;
  new_to = w.new_to;
  reach = w.reach;
  olds = w.olds;
  news = w.news;
}

pub walk_of : (e : Encoding) (old new : List ℕ) (edits : List RangeEdit) (i j k l : ℕ) (all steps : List Edit)
    → Between e old new edits i j k l steps → Follows e old new edits (both i j) (both k l) all steps
    → Walk e old new edits i j k l all steps
walk_of e old new edits i j k l all steps b f = record {
  old_order = b.old_order;
  new_order = b.new_order;
  old_from = b.old_from;
  new_from = b.new_from;
  old_to = b.old_to;
  new_to = b.new_to;
  reach = b.reach;
  olds = b.olds;
  news = b.news;
  follows = f;
}

-- a script that keeps all lines needs no edit
abbrev all_kept : List (List ℕ) → List Edit
all_kept [] = []
all_kept (line ∷ rest) = kept line ∷ all_kept rest

olds_kept : (lines : List (List ℕ)) → olds (all_kept lines) ≡ lines
olds_kept [] = refl
olds_kept (line ∷ rest) = ap (λ z. line ∷ z) (olds_kept rest)

news_kept : (lines : List (List ℕ)) → news (all_kept lines) ≡ lines
news_kept [] = refl
news_kept (line ∷ rest) = ap (λ z. line ∷ z) (news_kept rest)

kept_follows : (e : Encoding) (old : List ℕ) (at : ℕ) (lines : List (List ℕ))
    → EditsFollow e old at (all_kept lines) []
kept_follows e old at [] = follow_end
kept_follows e old at (line ∷ rest) = follow_kept (kept_follows e old (at + length line) rest)

pub same_script : (e : Encoding) (old new : List ℕ) (edits : List RangeEdit) → old ≡ new → edits ≡ []
    → EditsOfScript e old new edits
same_script e old new edits same none = subst (EditsOfScript e old new) (sym none) (record {
  script = all_kept (lines_of old);
  olds = olds_kept (lines_of old);
  news = news_kept (lines_of old) ∙ ap lines_of same;
  follow = kept_follows e old 0 (lines_of old);
})
