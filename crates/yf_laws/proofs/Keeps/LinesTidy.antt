-- The lines of a formatted text: only those in block scalars may end with white space, and each is indented by a
-- multiple of the style's indentation.
use Rattle.std.proofs.Common.{◌≡◌, ◌≢◌, ℕ, suc, ◌*◌, ◌≤◌, max, true, false, ⊎_elim, List, [], ◌∷◌, ◌++◌, replicate, refl, sym, ap, ◌∙◌, subst, arith, flat_map, map, append_assoc}
use Rattle.std.specs.Prelude.{not}
use Rattle.std.specs.Str.{IsUtf8}
use Rattle.std.proofs.lemmas.Str.{encode_ascii}
use Rattle.yf_chars.specs.Class.{is_white}
use Rattle.yf_chars.specs.Text.{last_or}
use Rattle.yf_lines.specs.declared.line.Line.{Line}
use Rattle.yf_comments.specs.Comment.{CommentValue}
use Rattle.yf_comments.specs.GapLines.{AreGapLines, GapLine, IsRemark}
use Rattle.yf_events.specs.Event.{EventInText, stream_ends}
use Rattle.yf_events.specs.Reading.{documents_before, leaves_before}
use Rattle.yf_events.specs.Tree.{DocumentTree, flat_document}
use Rattle.yf_events.specs.declared.document.Doc.{Doc}
use Rattle.yf_events.specs.declared.lists.Lists.{Lists}
use Rattle.yf_grammar.specs.Productions.TreesOfMeaning.{tall}
use Rattle.yf_stream.proofs.Uniqueness.OneDirective.{ascii_ns}
use Rattle.yf_forms.specs.declared.style.Style.{Style}
use Rattle.yf_forms.specs.Nodes.BlockLines.{block_lines, header_text}
use Rattle.yf_laws.specs.Layouts.RowComments.{AreDecos, AreTrails}
use Rattle.yf_laws.specs.Layouts.Decorated.{Deco, after, first, first_gap, lines_then, row_decos, rows_of}
use Rattle.yf_laws.specs.Layouts.FitDocuments.{tall_documents}
use Rattle.yf_laws.specs.Preservation.FoundTrees.{FoundTrees, none_found, one_found}
use Rattle.yf_laws.specs.Format.{IsFormatting}
use Rattle.yf_laws.specs.Layouts.Layout.{Remark, is_among, own_line_comments, source_of, trailing}
use Rattle.yf_forms.specs.Nodes.Lines.{trimmed}
use Rattle.yf_forms.specs.NormalForms.Normal.{setting_of}
use Rattle.yf_print.specs.Layouts.Rows.{Row, at_text_start}
use Rattle.yf_laws.specs.Preservation.TidyLines.{BlockScalar, block_scalars, CommentAfter, no_comment_after, comment_after, EndsWithHeader, IsStripped, IsTidyText, LineTexts, no_text, one_text, TidyLines, no_more_lines, a_blank_line, a_text_line, scalar_lines}
use Rattle.yf_laws.specs.Preservation.SameComments.{KeptComment, kept}
use Rattle.yf_laws.specs.Preservation.Tokens.{HasText, first_text, later_text, IsToken, TabsWithin, a_token, at_end, comment_texts, no_tab, tokens_in}
use Rattle.yf_laws.proofs.OutputLines.FormattedLines.{append_lines, formed, formed_are, formed_lines, formed_text, gap_texts, row_texts}
use Rattle.yf_laws.proofs.OutputLines.HeldLemmas.{BodiesHeld}
use Rattle.yf_laws.proofs.OutputLines.LaidLines.{LinesAre, LineIs, more_lines, gap_lines, own_line, row_lines}
use Rattle.yf_laws.proofs.OutputLines.LinedRows.{SeenLine, after_tidy, first_tidy, joined_some, own_next, own_seen, seen_long, some_long}
use Rattle.yf_laws.proofs.Keeps.RowColumns.{IsStep, StepBody, bare_body, step_body, Stepped, none_stepped, row_stepped, all_stepped}
use Rattle.yf_laws.proofs.Keeps.GapColumns.{GapSteps, no_gap, blank_step, remark_step, DecoSteps, no_decos, more_decos, decos_stepped, gap_stepped}
use Rattle.yf_laws.proofs.Derived.ClearRows.{trails_bytes}
use Rattle.yf_laws.proofs.SameReading.EventsTold.{events_told, told_pieces, told_scalars}
use Rattle.yf_laws.proofs.Tabs.RowTokens.{TokenRows, token_row, pieces_ended, pieces_in, laid_tokens, tabs_append, text_left, text_right}
use Rattle.yf_laws.proofs.Tabs.PiecesRead.{PiecesTabless}
use Rattle.yf_laws.proofs.Tabs.StreamPieces.{reading_pieces}
use Rattle.yf_laws.proofs.Tabs.DirectiveTabs.{words_tabless}
use Rattle.yf_laws.proofs.Tabs.CommentTokens.{AllTokens, DecoTokens, GapTokens, TrailTokens, after_tokens, all_filter, decos_tokens, documents_tokens, first_tokens, gap_tokens, own_tokens, zip_tokens}
use Rattle.yf_laws.proofs.Keeps.KeysTold.{laid_keys}
use Rattle.yf_laws.proofs.SameReading.SameComments.{formats_comments}
use Rattle.yf_laws.proofs.Tabs.TokenTabs.{one_token}
use Rattle.yf_laws.proofs.Keeps.ScalarsAmong.{scalars_ended}
use Rattle.yf_laws.proofs.SecondRun.FixedBlocks.{blocks_alike}
use Rattle.yf_laws.proofs.SecondRun.FixedLawsHold.{found_reading}
use Rattle.yf_laws.proofs.Derived.FormatsRead.{alike_tall}
use Rattle.yf_laws.proofs.OutputLines.FormattedHeld.{reading_held}
use Rattle.yf_laws.proofs.OutputLines.SeenTexts.{IsSeen, seen_more}
use Rattle.yf_laws.proofs.Derived.RowEnds.{after_decos, first_deco}
use Rattle.yf_laws.proofs.Derived.RowsUtf8.{AreLines, no_line, line_more, RowLines, no_rows, row_more}
use Rattle.yf_laws.proofs.OutputLines.TidyTexts.{IsTidy, TidyDecos, TidyGap, decos_tidy, gap_tidy, last_append, tidy_line}
use Rattle.yf_forms.specs.NormalForms.BareStart.{is_bare}
use Rattle.yf_laws.specs.Preservation.CommentsPlaced.{columns_in}
use Rattle.yf_laws.proofs.OutputLines.ColumnsHold.{WalkFrom, every, no_blocks}
use Rattle.yf_laws.proofs.SameReading.CommentsCut.{Each}
use Rattle.yf_laws.proofs.Trails.KeyTrails.{keys_on}

-- A comment on a line of its own, and rows.

remark_stripped : {text : List ℕ} → IsRemark text → IsTidy text → IsStripped text
remark_stripped {text} a tidy = record {
  char = 35;
  follows = a.follows;
  visible = ascii_ns 35 (omega arith) (omega arith);
  is = a.is ∙ ap (λ z. z ++ a.follows) (sym (encode_ascii 35 (omega arith)));
  ends = ⊎_elim (λ (e : text ≡ []). absurd (nothing (sym a.is ∙ e))) (λ (e : is_white (last_or 0 text) ≡ false). e) tidy;
} where
  nothing : 35 ∷ a.follows ≡ [] → ⊥
  nothing e = cc

first_steps : {indent limit : ℕ} {ds : List Deco} → DecoSteps indent limit ds → GapSteps indent limit (first ds).gap
first_steps no_decos = no_gap
first_steps (more_decos a more) = a

after_steps : {indent limit : ℕ} {ds : List Deco} → DecoSteps indent limit ds → DecoSteps indent limit (after ds)
after_steps no_decos = no_decos
after_steps (more_decos a more) = more

past_lines : {t : List ℕ} {ls : List Line} (xs : List (List ℕ)) {ys : List (List ℕ)} → LinesAre t ls (xs ++ ys) → (ms : List Line) × LinesAre t ms ys
past_lines {ls = ls} [] a = (ls, a)
past_lines (x ∷ xs) (more_lines b e more) = past_lines xs more

module _ {t : List ℕ} (u : IsUtf8 t) (hs : List EventInText) (indent limit : ℕ) (Token : List ℕ → Type 0) where
  gap_part : {bs : List BlockScalar} {gap : List GapLine} {xs : List (List ℕ)} → GapSteps indent limit gap → AreGapLines gap → TidyGap gap → GapTokens Token gap → TidyLines indent limit Token bs xs → TidyLines indent limit Token bs (gap_lines gap ++ xs)
  gap_part no_gap a b t more = more
  gap_part (blank_step s) a b t more = a_blank_line (gap_part s a b t more)
  gap_part {bs = bs} {xs = xs} (remark_step {text = text} {gs = gs} e s) a b t more =
      subst (λ k. TidyLines indent limit Token bs ((replicate k 32 ++ text) ∷ (gap_lines gs ++ xs))) (sym e.is) (a_text_line e.steps e.low (remark_stripped a.0 b.0) (one_token Token t.0) (gap_part s a.1 b.1 t.1 more))

  trail_tabs : (xs : List (List ℕ)) → TrailTokens Token xs → TabsWithin Token (trails_bytes xs)
  trail_tabs [] a = at_end
  trail_tabs (x ∷ xs) a = no_tab (λ e. omega (arith, e)) (no_tab (λ e. omega (arith, e)) (a_token a.0 (trail_tabs xs a.1)))

  trail_comment : (xs : List (List ℕ)) → AreTrails xs → CommentAfter (trails_bytes xs)
  trail_comment [] a = no_comment_after
  trail_comment (x ∷ []) a = subst (λ z. CommentAfter (32 ∷ 32 ∷ (z ++ []))) (sym a.is) comment_after
  trail_comment (x ∷ y ∷ zs) a = absurd a

  row_part : {rest bs : List BlockScalar} {text follows : List ℕ} {column : ℕ} {body below : List (List ℕ)} → IsStep indent limit column → StepBody indent limit text rest bs body → IsStripped (text ++ follows) → TabsWithin Token (text ++ follows)
      → CommentAfter follows → TidyLines indent limit Token rest below → TidyLines indent limit Token bs ((replicate column 32 ++ (text ++ follows)) ∷ (body ++ below))
  row_part {rest} {text = text} {follows = follows} {below = below} e bare_body stripped tabs comment more =
      subst (λ k. TidyLines indent limit Token rest ((replicate k 32 ++ (text ++ follows)) ∷ below)) (sym e.is) (a_text_line e.steps e.low stripped tabs more)
  row_part {rest} {text = text} {follows = follows} {below = below} e (step_body {b = b} {column = m} d h) stripped tabs comment more =
      let header : EndsWithHeader (header_text b.style indent b.text) (text ++ follows) =
      record { before = h.before; after = follows; is = ap (λ z. z ++ follows) h.is ∙ append_assoc h.before (header_text b.style indent b.text) follows; comment = comment } in
      subst (λ k. TidyLines indent limit Token (b ∷ rest) ((replicate k 32 ++ (text ++ follows)) ∷ (block_lines b.style m b.text b.lines ++ below))) (sym e.is)
      (subst (λ k. TidyLines indent limit Token (b ∷ rest) ((replicate (e.steps * indent) 32 ++ (text ++ follows)) ∷ (block_lines b.style k b.text b.lines ++ below))) (sym d.is)
      (scalar_lines e.steps d.steps e.low d.low stripped tabs header more))

  own_stripped : {l : Line} (x : Row) (d : Deco) (r : List ℕ) (a : LineIs t l (own_line x d)) → IsSeen x.text → SeenLine t l → IsStripped (x.text ++ trails_bytes d.trails)
  own_stripped {l} x d r a seen line =
      let all = seen_more (trails_bytes d.trails) seen in
      let y : List ℕ = x.text ++ trails_bytes d.trails in
      let some : y ≢ [] = some_long (seen_long all) in
      record {
        char = all.char;
        follows = all.follows;
        visible = all.ns;
        is = all.is;
        ends = ap is_white (sym (last_append 0 (replicate x.column 32) y some)) ∙ tidy_line u a (joined_some u hs [] (replicate x.column 32) y some) line.ends;
      }

  rows_part : {bs : List BlockScalar} {xs : List Row} (ds : List Deco) (ls : List Line) → RowLines xs → Stepped indent limit bs xs → TokenRows Token xs → DecoTokens Token ds → AreDecos ds → TidyDecos ds → DecoSteps indent limit ds → BodiesHeld t hs xs ds []
      → LinesAre t ls (row_lines xs ds) → TidyLines indent limit Token bs (row_lines xs ds)
  rows_part ds ls no_rows none_stepped tabs told fit tidy gaps held are = no_more_lines
  rows_part ds [] (row_more text seen body more) steps tabs told fit tidy gaps held are = elim are [ ]
  rows_part ds (l ∷ ls) (row_more {x = x} {xs = xs} text seen body more) (row_stepped {rest = rest} e h b steps) (token_row one tabs) told fit tidy gaps held (more_lines a f are) =
      let d : Deco = first ds in
      let line = own_seen u hs [] x d (lines_then xs (after ds) []) a (own_next x xs ds a.follows f) (seen_long seen) (first_deco fit).trails (first_tidy tidy).0 held.0.seen in
      let bodies = past_lines x.body are in
      let follows = past_lines (gap_lines d.gap) bodies.1 in
      let others : TidyLines indent limit Token rest (row_lines xs (after ds)) = rows_part (after ds) follows.0 more steps tabs (after_tokens Token ds told) (after_decos fit) (after_tidy tidy) (after_steps gaps) held.1 follows.1 in
      row_part e b (own_stripped x d (lines_then xs (after ds) []) a seen line) (tabs_append Token one (trail_tabs d.trails (first_tokens Token ds told).0)) (trail_comment d.trails (first_deco fit).trails) (gap_part (first_steps gaps) (first_deco fit).gap (first_tidy tidy).1 (first_tokens Token ds told).1 others)

-- The trees that are found are as tall as those that were laid out.

found_tall : {s : Style} {cs es : List CommentValue} {u : List ℕ} {ds fs : List Doc} {xs ys : List DocumentTree} → FoundTrees s cs u es ds xs fs ys → tall_documents xs ≡ tall_documents ys
found_tall none_found = refl
found_tall (one_found {x = x} {y = y} {xs = xs} {ys = ys} w a f more) = ap (λ k. max k (tall_documents xs)) (alike_tall (blocks_alike a)) ∙ ap (λ k. max (tall y.root) k) (found_tall more)

-- The comments are those of the reading.

texts_of_kept : (r : Lists) (cs : List CommentValue)
    → map (λ (x : KeptComment). x.0) (map (λ (c : CommentValue). (trimmed c.text, (documents_before r c.offset, leaves_before r c.offset))) cs) ≡ map (λ (c : CommentValue). trimmed c.text) cs
texts_of_kept r [] = refl
texts_of_kept r (c ∷ cs) = ap (λ z. trimmed c.text ∷ z) (texts_of_kept r cs)

same_texts : (q r : Lists) → kept q ≡ kept r → comment_texts q ≡ comment_texts r
same_texts q r e = sym (texts_of_kept q q.comments) ∙ (ap (map (λ (x : KeptComment). x.0)) e ∙ texts_of_kept r r.comments)

all_tokens : (Token : List ℕ → Type 0) (cs : List CommentValue) → ((w : List ℕ) → HasText w (map (λ (c : CommentValue). trimmed c.text) cs) → Token w) → AllTokens Token cs
all_tokens Token [] h = tt
all_tokens Token (c ∷ cs) h = (h (trimmed c.text) (first_text refl), all_tokens Token cs (λ w a. h w (later_text a)))

-- The law.

line_texts : {xs : List (List ℕ)} → AreLines xs → LineTexts xs
line_texts no_line = no_text
line_texts (line_more a more) = one_text a (line_texts more)

pub lines_tidy : (t u : List ℕ) (s : Style) → IsUtf8 t → IsFormatting t s u → IsTidyText s u
lines_tidy t u s utf8 f =
    let a = formed utf8 f in
    let m : Lists = f.normal in
    let rows : List Row = rows_of m s f.writes.trees in
    let decos : List Deco = row_decos (columns_in f) m rows in
    let comments = own_line_comments (source_of m rows) rows in
    record {
      lines = formed_lines f;
      is = formed_text f;
      texts = line_texts (append_lines (gap_texts (first_gap (columns_in f) m rows) a.gap) (row_texts decos a.rows a.decos));
      tidy = λ q b.
          let trees : List DocumentTree = f.writes.trees in
          let scalars : block_scalars (flat_map flat_document trees) ≡ block_scalars q.events =
          sym (scalars_ended (flat_map flat_document trees) stream_ends refl) ∙ (ap block_scalars (sym f.writes.of_reading.events) ∙ told_scalars m.events q.events (events_told utf8 f b)) in
          let found = (found_reading t u s q utf8 f b).alike in
          let pieces : pieces_in s q.events ≡ pieces_in s (flat_map flat_document trees) =
          sym (told_pieces s m.events q.events (events_told utf8 f b)) ∙ (ap (pieces_in s) f.writes.of_reading.events ∙ pieces_ended s (flat_map flat_document trees) stream_ends refl) in
          let read : PiecesTabless (IsToken q) s q.events = reading_pieces a.utf8 (IsToken q) s b (λ w h. text_left (comment_texts q) h) in
          let tabs : TokenRows (IsToken q) rows =
          laid_tokens (IsToken q) (setting_of m s) (is_bare m s) m.documents trees (words_tabless (IsToken q) a.fit) (λ w h. read w (subst (λ z. HasText w z) (sym pieces) h)) in
          let texts : comment_texts q ≡ comment_texts m =
          same_texts q f.reading (formats_comments t u s utf8 f f.reading q f.reads b) ∙ sym (ap (λ (w : Lists). comment_texts w) f.is_normal.is) in
          let all : AllTokens (IsToken q) m.comments = all_tokens (IsToken q) m.comments (λ w h. text_right (tokens_in q.events) (subst (λ z. HasText w z) (sym texts) h)) in
          let remarks = zip_tokens (IsToken q) m.comments m.on_leaf_line all in
          let own : AllTokens (IsToken q) comments = all_filter (IsToken q) (λ d. not (is_among (flat_map (trailing (source_of m rows)) rows) d)) (map (λ (x : Remark). x.0) (source_of m rows).remarks) (own_tokens (IsToken q) (source_of m rows).remarks remarks) in
          let keys : AllTokens (IsToken q) (keys_on rows) =
          subst (λ z. AllTokens (IsToken q) z) (sym (laid_keys (setting_of m s) (is_bare m s) m.documents trees f.writes.of_reading.documents)) (documents_tokens (IsToken q) (setting_of m s) all trees) in
          let limit : ℕ = suc (tall_documents b.trees) in
          let room : suc (tall_documents trees) ≤ limit = let same = found_tall found in omega (arith, same) in
          let steps : Stepped s.indent limit (block_scalars (flat_map flat_document trees)) rows = all_stepped (setting_of m s) limit (is_bare m s) room a.fit in
          let walks : Each (WalkFrom t s (columns_in f) [] true rows) comments = every (λ d. record { is = λ next. refl }) comments in
          let lines = past_lines (gap_lines (first_gap (columns_in f) m rows)) (formed_are b.lines f a b.are_lines) in
          subst (λ bs. TidyLines s.indent limit (IsToken q) bs (formed_lines f)) scalars
          (gap_part a.utf8 q.events s.indent limit (IsToken q) (gap_stepped limit t s (columns_in f) at_text_start walks no_blocks steps) a.gap (gap_tidy (columns_in f) at_text_start comments rows) (gap_tokens (IsToken q) (columns_in f) at_text_start comments rows own)
          (rows_part a.utf8 q.events s.indent limit (IsToken q) decos lines.0 a.rows steps tabs (decos_tokens (IsToken q) (columns_in f) (source_of m rows) comments rows remarks keys own) a.decos (decos_tidy (columns_in f) (source_of m rows) comments rows) (decos_stepped limit t s (columns_in f) (source_of m rows) walks no_blocks steps)
          (reading_held utf8 f b).bodies lines.1));
    }
