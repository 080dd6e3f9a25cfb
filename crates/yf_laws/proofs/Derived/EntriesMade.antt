-- Entries of a block collection, from their rows: items, explicit pairs, and entries in sequence.
use Rattle.std.proofs.Common.{◌≡◌, ℕ, max, ◌+◌, ◌-◌, ◌≤◌, pos, Bool, true, false, List, [], ◌∷◌, ◌++◌, replicate, Option, Some, None, refl, sym, ap, ◌∙◌, subst, arith, append-nil, ◌⊎◌, ⊎_elim}
use Rattle.std.specs.Prelude.{if◌then◌else◌}
use Rattle.std.specs.Str.{IsUtf8}
use Rattle.yf_chars.specs.declared.context.Ctx.TheVariants.{BlockIn, BlockOut}
use Rattle.yf_chars.specs.Class.{is_ns_char, is_break_char, is_white, is_white_or_end}
use Rattle.yf_chars.specs.Text.{code}
use Rattle.yf_lines.specs.Basic.{LineStart}
use Rattle.yf_lines.proofs.RestLemmas.{Rest, rest_spaces}
use Rattle.yf_comments.specs.Comment.{CommentValue}
use Rattle.yf_comments.proofs.GapLinesLemmas.{texts}
use Rattle.yf_events.specs.Tree.{Node}
use Rattle.yf_grammar.specs.Productions.Grammar.{Derives, BlockEntry, BlockEntries, ColonLine}
use Rattle.yf_grammar.specs.Productions.Grammar.Derives.{a_last_entry, an_entry_before, a_dash_entry, an_explicit_entry_with}
use Rattle.yf_grammar.specs.Productions.Meaning.{Meaning, ◌⊕◌, entering}
use Rattle.yf_grammar.specs.Productions.TreesOfMeaning.{tall}
use Rattle.yf_grammar.proofs.NodesInText.MeantLemmas.{texts_entering, texts_both}
use Rattle.yf_laws.specs.Layouts.RowComments.{AreDecos, comments_in, Calm}
use Rattle.yf_laws.specs.Layouts.Decorated.{Deco, past, lines_then, inline_then}
use Rattle.yf_forms.specs.NormalForms.Normal.{LayoutSetting, Margins, inner_margins, is_implicit, key_margins}
use Rattle.yf_print.specs.Layouts.Rows.{Row, joined}
use Rattle.yf_laws.proofs.Derived.LayoutSteps.{steps_in}
use Rattle.yf_laws.proofs.Derived.DecoratedLemmas.{inline_append}
use Rattle.yf_laws.proofs.OutputLines.HeldLemmas.{Held, held_both, held_entering}
use Rattle.yf_laws.proofs.RowNodes.FoundNodes.{FoundItem, FoundNode, FoundPair, found_item, found_explicit, meant_of}
use Rattle.yf_laws.proofs.Derived.LaidRows.{steps_append}
use Rattle.yf_laws.proofs.Derived.NodesMade.{Stood, Claim, no_row, some_rows, sign_row, sign_made}
use Rattle.yf_laws.proofs.RowNodes.PlacedRows.{PlacedRow, RowsIn, rows_in_append}
use Rattle.yf_laws.proofs.Derived.RowEnds.{past_decos, comments_append, calm_append}
use Rattle.yf_laws.proofs.Columns.SetMeant.{column_start, SetEntry, SetEntries, set_last, set_more, set_item_entered, set_explicit}
use Rattle.yf_laws.proofs.Derived.StepsInText.{MeaningLaid, laid_both, laid_entering}
use Rattle.yf_laws.proofs.Columns.SourceColumns.{colon_sign, dash_sign, question_sign}
use Rattle.yf_chars.proofs.CharFacts.{feed_no_ns, space_no_ns}
use Rattle.yf_lines.proofs.BasicLemmas.{ends_at_lf}

-- rows, the first of them at that column
pub data Begins (column : ℕ) : List Row → Type 0 where
  begins : {r : Row} {rs : List Row} → r.column ≡ column → Begins column (r ∷ rs)

-- an entry whose first row's text is at q, with a meaning for which P holds; and entries
pub record EntryMade (s : LayoutSetting) (sequence : Bool) (column bound : ℕ) (P : List ℕ → Meaning → List PlacedRow → Type 0) (t : List ℕ) (rs : List Row) (ds : List Deco) (q : ℕ) (r : List ℕ) : Type 0 where
  pub height : ℕ
  pub place : ℕ
  pub meaning : Meaning
  pub derived : Derives t height (BlockEntry sequence column) q place meaning
  pub low : height ≤ bound
  pub rest : Rest t place r
  pub start : LineStart t place
  pub found_rows : List PlacedRow
  pub meant : P t meaning found_rows
  pub is : texts meaning.comments ≡ comments_in rs ds
  pub laid : MeaningLaid q place meaning (steps_in rs ds)
  pub held : Held t meaning rs ds r
  pub set : SetEntry sequence t s.style column q meaning
  pub placed : RowsIn t rs found_rows ds q meaning.comments place r

pub record EntryMakes (s : LayoutSetting) (sequence : Bool) (column bound : ℕ) (P : List ℕ → Meaning → List PlacedRow → Type 0) (rs : List Row) : Type 0 where
  pub starts : Begins column rs
  pub made : {t : List ℕ} (ds : List Deco) (r : List ℕ) (q : ℕ) → IsUtf8 t → AreDecos ds → Calm rs ds r → Rest t q (inline_then rs ds r)
      → EntryMade s sequence column bound P t rs ds q r

pub record EntriesMade (s : LayoutSetting) (sequence : Bool) (column bound : ℕ) (P : List ℕ → Meaning → List PlacedRow → Type 0) (t : List ℕ) (rs : List Row) (ds : List Deco) (q : ℕ) (r : List ℕ) : Type 0 where
  pub height : ℕ
  pub place : ℕ
  pub meaning : Meaning
  pub derived : Derives t height (BlockEntries sequence column) q place meaning
  pub low : height ≤ bound
  pub rest : Rest t place r
  pub start : LineStart t place
  pub found_rows : List PlacedRow
  pub meant : P t meaning found_rows
  pub is : texts meaning.comments ≡ comments_in rs ds
  pub laid : MeaningLaid q place meaning (steps_in rs ds)
  pub held : Held t meaning rs ds r
  pub set : SetEntries sequence t s.style column q meaning
  pub placed : RowsIn t rs found_rows ds q meaning.comments place r

pub record EntriesMakes (s : LayoutSetting) (sequence : Bool) (column bound : ℕ) (P : List ℕ → Meaning → List PlacedRow → Type 0) (rs : List Row) : Type 0 where
  pub starts : Begins column rs
  pub made : {t : List ℕ} (ds : List Deco) (r : List ℕ) (q : ℕ) → IsUtf8 t → AreDecos ds → Calm rs ds r → Rest t q (inline_then rs ds r)
      → EntriesMade s sequence column bound P t rs ds q r

-- Rows that begin at a column.

pub lines_begin : {column : ℕ} {rs : List Row} (ds : List Deco) (r : List ℕ) → Begins column rs → lines_then rs ds r ≡ replicate column 32 ++ inline_then rs ds r
lines_begin ds r (begins {r = x} {rs = xs} e) = ap (λ k. replicate k 32 ++ inline_then (x ∷ xs) ds r) e

pub append_begins : {column : ℕ} {rs : List Row} (more : List Row) → Begins column rs → Begins column (rs ++ more)
append_begins more (begins e) = begins e

inline_more : {column : ℕ} {rs : List Row} (more : List Row) (ds : List Deco) (r : List ℕ) → Begins column rs
    → inline_then (rs ++ more) ds r ≡ inline_then rs ds (lines_then more (past rs ds) r)
inline_more more ds r (begins {r = x} {rs = xs} e) = inline_append x xs more ds r

pub sign_begins : {s : LayoutSetting} {x : Node} {margins : Margins} {rs : List Row} (column sign : ℕ) (offsets items : List ℕ) (blank : Bool) (n : ℕ) → Claim s x margins rs
    → Begins column (joined (sign_row column sign offsets items blank) n rs)
sign_begins column sign offsets items blank n (no_row m) = begins refl
sign_begins column sign offsets items blank n (some_rows f g m) = begins refl

pub comments_both : (x y : Meaning) → (x ⊕ y).comments ≡ x.comments ++ y.comments
unfolding ◌⊕◌
comments_both x y = refl

pub comments_entering : (i : ℕ) (c : Option ℕ) (x : Meaning) → (entering i c x).comments ≡ x.comments
unfolding entering
comments_entering i c x = refl

pub rows_in_more : {t : List ℕ} {column : ℕ} {rs ls : List Row} {ps qs : List PlacedRow} {ds : List Deco} {i k j : ℕ} {cs es : List CommentValue} {r : List ℕ} → Begins column ls
    → RowsIn t rs ps ds i cs k (lines_then ls (past rs ds) r) → RowsIn t ls qs (past rs ds) (k + column) es j r → RowsIn t (rs ++ ls) (ps ++ qs) ds i (cs ++ es) j r
rows_in_more {t} {rs = rs} {qs = qs} {ds = ds} {k = k} {j = j} {es = es} {r = r} (begins {r = y} {rs = ys} e) a b =
    rows_in_append a (subst (λ z. RowsIn t (y ∷ ys) qs (past rs ds) (k + z) es j r) (sym e) b)

-- One entry after the other.

pub entries_last : {s : LayoutSetting} {sequence : Bool} {column bound : ℕ} {P Q : List ℕ → Meaning → List PlacedRow → Type 0} {rs : List Row} → ((t : List ℕ) (m : Meaning) (ps : List PlacedRow) → P t m ps → Q t m (ps ++ []))
    → EntryMakes s sequence column bound P rs → EntriesMakes s sequence column bound Q (rs ++ [])
entries_last {s} {sequence} {column} {bound} {P} {Q} {rs} f e = subst (λ z. EntriesMakes s sequence column bound Q z) (sym (append-nil rs)) (record { starts = e.starts; made = made }) where
  made : {t : List ℕ} (ds : List Deco) (r : List ℕ) (q : ℕ) → IsUtf8 t → AreDecos ds → Calm rs ds r → Rest t q (inline_then rs ds r)
      → EntriesMade s sequence column bound Q t rs ds q r
  made {t} ds r q u a k w =
      let one = e.made ds r q u a k w in
      record {
        height = one.height;
        place = one.place;
        meaning = one.meaning;
        derived = a_last_entry one.derived;
        low = one.low;
        rest = one.rest;
        start = one.start;
        found_rows = one.found_rows ++ [];
        meant = f t one.meaning one.found_rows one.meant;
        placed = subst (λ z. RowsIn t rs z ds q one.meaning.comments one.place r) (sym (append-nil one.found_rows)) one.placed;
        is = one.is;
        laid = one.laid;
        held = one.held;
        set = set_last t s.style sequence column q one.meaning one.set;
      }

pub entries_more : {s : LayoutSetting} {sequence : Bool} {column bound least : ℕ} {P Q S : List ℕ → Meaning → List PlacedRow → Type 0} {rs ls : List Row} → ((t : List ℕ) (m n : Meaning) (ps qs : List PlacedRow) → P t m ps → Q t n qs → S t (m ⊕ n) (ps ++ qs))
    → EntryMakes s sequence column bound P rs → EntriesMakes s sequence column least Q ls → EntriesMakes s sequence column (max bound least) S (rs ++ ls)
entries_more {s} {sequence} {column} {bound} {least} {P} {Q} {S} {rs} {ls} f e o = record { starts = append_begins ls e.starts; made = made } where
  made : {t : List ℕ} (ds : List Deco) (r : List ℕ) (q : ℕ) → IsUtf8 t → AreDecos ds → Calm (rs ++ ls) ds r → Rest t q (inline_then (rs ++ ls) ds r)
      → EntriesMade s sequence column (max bound least) S t (rs ++ ls) ds q r
  made {t} ds r q u a k w =
      let ks = calm_append rs ls ds r k in
      let one = e.made ds (lines_then ls (past rs ds) r) q u a ks.0 (subst (λ v. Rest t q v) (inline_more ls ds r e.starts) w) in
      let there = rest_spaces column one.place u (subst (λ v. Rest t one.place v) (lines_begin (past rs ds) r o.starts) one.rest) in
      let more = o.made (past rs ds) r (one.place + column) u (past_decos rs a) ks.1 there.1 in
      let low : one.height ≤ bound = one.low in
      let high : more.height ≤ least = more.low in
      record {
        height = max one.height more.height;
        place = more.place;
        meaning = one.meaning ⊕ more.meaning;
        derived = an_entry_before one.derived there.0 more.derived;
        low = omega (arith, low, high);
        rest = more.rest;
        start = more.start;
        found_rows = one.found_rows ++ more.found_rows;
        meant = f t one.meaning more.meaning one.found_rows more.found_rows one.meant more.meant;
        placed = subst (λ z. RowsIn t (rs ++ ls) (one.found_rows ++ more.found_rows) ds q z more.place r) (sym (comments_both one.meaning more.meaning)) (rows_in_more o.starts one.placed more.placed);
        is = texts_both one.meaning more.meaning ∙ (ap (λ z. z ++ texts more.meaning.comments) one.is
            ∙ (ap (λ z. comments_in rs ds ++ z) more.is ∙ sym (comments_append rs ls ds)));
        laid = subst (λ z. MeaningLaid q more.place (one.meaning ⊕ more.meaning) z) (sym (steps_append rs ls ds)) (laid_both one.meaning more.meaning one.laid more.laid (omega arith));
        held = held_both one.meaning more.meaning rs ls ds r one.held more.held;
        set = set_more t s.style sequence column q (one.place + column) one.meaning more.meaning (column_start u one.start there.0) one.set more.set;
      }

-- An item after its `-`.

space_ends : is_white_or_end 32 ≡ true
unfolding is_white_or_end is_white is_break_char
space_ends = refl

no_ns : (t : List ℕ) (i : ℕ) → (code t i ≡ 32) ⊎ (code t i ≡ 10) → is_ns_char (code t i) ≡ false
no_ns t i e = ⊎_elim (λ (z : code t i ≡ 32). ap is_ns_char z ∙ space_no_ns) (λ (z : code t i ≡ 10). ap is_ns_char z ∙ feed_no_ns) e

ends_white : (t : List ℕ) (i : ℕ) → (code t i ≡ 32) ⊎ (code t i ≡ 10) → is_white_or_end (code t i) ≡ true
ends_white t i e = ⊎_elim (λ (z : code t i ≡ 32). ap is_white_or_end z ∙ space_ends) (λ (z : code t i ≡ 10). ap is_white_or_end z ∙ ends_at_lf) e

pub item_makes : {s : LayoutSetting} {x : Node} {margins : Margins} {rs : List Row} (column : ℕ) (items : List ℕ) (blank : Bool) → 2 ≤ s.style.indent → margins ≡ inner_margins s.style column
    → Stood s x (pos column) BlockIn margins → Claim s x margins rs
    → EntryMakes s true column (tall x) (λ t m ps. FoundItem t s column x m ps) (joined (sign_row column 45 items items blank) (s.style.indent - 1) rs)
item_makes {s} {x} {margins} {rs} column items blank wide e stood k = record { starts = sign_begins column 45 items items blank (s.style.indent - 1) k; made = made } where
  made : {t : List ℕ} (ds : List Deco) (r : List ℕ) (q : ℕ) → IsUtf8 t → AreDecos ds → Calm (joined (sign_row column 45 items items blank) (s.style.indent - 1) rs) ds r
      → Rest t q (inline_then (joined (sign_row column 45 items items blank) (s.style.indent - 1) rs) ds r)
      → EntryMade s true column (tall x) (λ t m ps. FoundItem t s column x m ps) t (joined (sign_row column 45 items items blank) (s.style.indent - 1) rs) ds q r
  made {t} ds r q u a calm w =
      let one = sign_made column 45 items items blank BlockIn ds r q (omega arith) (omega arith) dash_sign wide k (ap (λ z. z.column) e) (ap (λ z. z.entries) e) u stood a calm w in
      record {
        height = one.height;
        place = one.place;
        meaning = entering q None one.meaning;
        derived = a_dash_entry one.is_there (no_ns t (q + 1) one.follows) one.derived;
        low = one.low;
        rest = one.rest;
        start = one.start;
        found_rows = one.found_rows;
        meant = found_item q (subst (λ z. FoundNode t s z x one.meaning one.inner) e one.meant) one.signed;
        placed = subst (λ z. RowsIn t (joined (sign_row column 45 items items blank) (s.style.indent - 1) rs) one.found_rows ds q z one.place r) (sym (comments_entering q None one.meaning)) one.placed;
        is = texts_entering q None one.meaning ∙ one.is;
        laid = laid_entering q None one.meaning one.laid;
        set = set_item_entered column q one.meaning one.set;
        held = held_entering q None one.meaning (joined (sign_row column 45 items items blank) (s.style.indent - 1) rs) ds r one.held;
      }

-- A pair after its `?`, with the value after a `:` on a line of its own.
pub explicit_makes : {s : LayoutSetting} {k v : Node} {at to : Margins} {rs ls : List Row} (column : ℕ) (items : List ℕ) (blank : Bool) (places : List ℕ) → is_implicit s.style column k ≡ false → 2 ≤ s.style.indent
    → at ≡ key_margins s.style column k → to ≡ inner_margins s.style column → Stood s k (pos column) BlockOut at → Stood s v (pos column) BlockOut to → Claim s k at rs → Claim s v to ls
    → EntryMakes s false column (max (tall k) (tall v)) (λ t m ps. FoundPair t s column k v m ps)
    (joined (sign_row column 63 items items blank) (s.style.indent - 1) rs ++ joined (sign_row column 58 items places false) (s.style.indent - 1) ls)
explicit_makes {s} {k} {v} {at} {to} {rs} {ls} column items blank places marked wide e f stood is_there a b = record {
  starts = append_begins values (sign_begins column 63 items items blank (s.style.indent - 1) a);
  made = made;
} where
  keys : List Row
  keys = joined (sign_row column 63 items items blank) (s.style.indent - 1) rs

  after_question : (key_margins s.style column k).column ≡ column + s.style.indent
  after_question = ap (λ z. if z then column else column + s.style.indent) marked

  values : List Row
  values = joined (sign_row column 58 items places false) (s.style.indent - 1) ls

  made : {t : List ℕ} (ds : List Deco) (r : List ℕ) (q : ℕ) → IsUtf8 t → AreDecos ds → Calm (keys ++ values) ds r → Rest t q (inline_then (keys ++ values) ds r)
      → EntryMade s false column (max (tall k) (tall v)) (λ t m ps. FoundPair t s column k v m ps) t (keys ++ values) ds q r
  made {t} ds r q u ok calm w =
      let ks = calm_append keys values ds r calm in
      let one = sign_made column 63 items items blank BlockOut ds (lines_then values (past keys ds) r) q (omega arith) (omega arith) question_sign wide a (ap (λ z. z.column) e ∙ after_question) (ap (λ z. z.entries) e) u stood ok ks.0
      (subst (λ z. Rest t q z) (inline_more values ds r (sign_begins column 63 items items blank (s.style.indent - 1) a)) w) in
      let there = rest_spaces column one.place u (subst (λ z. Rest t one.place z) (lines_begin (past keys ds) r (sign_begins column 58 items places false (s.style.indent - 1) b)) one.rest) in
      let two = sign_made column 58 items places false BlockOut (past keys ds) r (one.place + column) (omega arith) (omega arith) colon_sign wide b (ap (λ z. z.column) f) (ap (λ z. z.entries) f) u is_there (past_decos keys ok) ks.1 there.1 in
      let colon : ColonLine t column one.place = record { indent = there.0; colon = two.is_there; follows = ends_white t (one.place + column + 1) two.follows } in
      let low : one.height ≤ tall k = one.low in
      let high : two.height ≤ tall v = two.low in
      record {
        height = max one.height two.height;
        place = two.place;
        meaning = entering q (Some (one.place + column)) one.meaning ⊕ two.meaning;
        derived = an_explicit_entry_with one.is_there (ends_white t (q + 1) one.follows) one.derived colon two.derived;
        low = omega (arith, low, high);
        rest = two.rest;
        start = two.start;
        found_rows = one.found_rows ++ two.found_rows;
        meant = found_explicit q (one.place + column) marked (subst (λ z. FoundNode t s z k one.meaning one.inner) e one.meant) one.signed (subst (λ z. FoundNode t s z v two.meaning two.inner) f two.meant) two.signed;
        placed = subst (λ z. RowsIn t (keys ++ values) (one.found_rows ++ two.found_rows) ds q z two.place r)
            (sym (comments_both (entering q (Some (one.place + column)) one.meaning) two.meaning ∙ ap (λ z. z ++ two.meaning.comments) (comments_entering q (Some (one.place + column)) one.meaning)))
            (rows_in_more (sign_begins column 58 items places false (s.style.indent - 1) b) one.placed two.placed);
        is = texts_both (entering q (Some (one.place + column)) one.meaning) two.meaning
            ∙ (ap (λ z. z ++ texts two.meaning.comments) (texts_entering q (Some (one.place + column)) one.meaning ∙ one.is)
            ∙ (ap (λ z. comments_in keys ds ++ z) two.is ∙ sym (comments_append keys values ds)));
        laid = subst (λ z. MeaningLaid q two.place (entering q (Some (one.place + column)) one.meaning ⊕ two.meaning) z) (sym (steps_append keys values ds))
            (laid_both (entering q (Some (one.place + column)) one.meaning) two.meaning (laid_entering q (Some (one.place + column)) one.meaning one.laid) two.laid (omega arith));
        set = set_explicit column q (one.place + column) (one.place + column) one.meaning two.meaning (meant_of one.meant) marked one.is_there (ends_white t (q + 1) one.follows) one.set (column_start u one.start there.0) two.set;
        held = held_both (entering q (Some (one.place + column)) one.meaning) two.meaning keys values ds r
            (held_entering q (Some (one.place + column)) one.meaning keys ds (lines_then values (past keys ds) r) one.held) two.held;
      }
