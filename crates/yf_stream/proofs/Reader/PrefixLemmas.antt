-- The lines before a document as a reader passes them, and the comments that it keeps.
use Rattle.std.proofs.Common.{◌≡◌, ◌≢◌, ℕ, ◌+◌, ◌<◌, ◌≤◌, Bool, List, [], ◌∷◌, ◌++◌, length, map, drop, inl, ⊎_elim, refl, sym, ap, ◌∙◌, subst, arith, append_assoc, append-nil}
use Rattle.std.proofs.lemmas.List.{drop_all, drop_more}
use Rattle.std.specs.Prelude.{slice_index_or}
use Rattle.yf_chars.specs.Text.{code, next}
use Rattle.yf_chars.specs.Chain.{Chain, Chosen, Functional, Stuck}
use Rattle.yf_chars.specs.Chain.Chain.{done, step}
use Rattle.yf_chars.proofs.ChainLemmas.{chain_append, chain_chosen, chain_more, chain_one}
use Rattle.yf_chars.proofs.TextLemmas.{next_later}
use Rattle.yf_lines.specs.Basic.{LineStart}
use Rattle.yf_lines.specs.Basic.LineStart.{after_mark}
use Rattle.yf_comments.specs.Comment.{CommentValue, comment_value}
use Rattle.yf_comments.specs.declared.comment.Comment.{Comment}
use Rattle.yf_comments.specs.Comments.{LineEnd, Row}
use Rattle.yf_comments.proofs.LineEndLemmas.{line_end_rows, lines_rows, rest_line, rest_next, rows_line_end}
use Rattle.yf_comments.proofs.RowLemmas.{end_code, rest_at_end, row_functional}
use Rattle.yf_grammar.proofs.BlockOutcomes.BlockEnds.{LineOrEnd}
use Rattle.yf_stream.specs.DocumentReaders.{FloorNote, CommentsAdded, PrefixRead, PrefixRow, PrefixUpto, SameButNotes, mark_row, line_row, none_renoted, one_renoted}
use Rattle.yf_stream.specs.Stream.{PrefixPart, Prefixes}
use Rattle.yf_stream.specs.Stream.PrefixPart.{order_mark, prefix_comment}
use Rattle.yf_stream.proofs.ReaderLaws.{PrefixesAreRead}
use Rattle.yf_stream.proofs.Uniqueness.StreamPath.{mark_still}

-- comments that are kept
renoted_more : {t : List ℕ} {f : ℕ} {cs ns : List CommentValue} (c : CommentValue) (b : Bool) → FloorNote t f c.offset b → SameButNotes t f cs ns
    → SameButNotes t f (cs ++ c ∷ []) (ns ++ record c { blank_before = b } ∷ [])
renoted_more c b n none_renoted = one_renoted b n none_renoted
renoted_more c b n (one_renoted a m r) = one_renoted a m (renoted_more c b n r)

renoted_join : {t : List ℕ} {f : ℕ} {cs ds ms ns : List CommentValue} → SameButNotes t f cs ms → SameButNotes t f ds ns → SameButNotes t f (cs ++ ds) (ms ++ ns)
renoted_join none_renoted r = r
renoted_join (one_renoted a m l) r = one_renoted a m (renoted_join l r)

pub kept_none : (t : List ℕ) (f : ℕ) (a : List CommentValue) → CommentsAdded t f [] a a
kept_none t f a = record { noted = []; renoted = none_renoted; list = sym (append-nil a) }

pub kept_join : {t : List ℕ} {f : ℕ} {cs ds a b c : List CommentValue} → CommentsAdded t f cs a b → CommentsAdded t f ds b c → CommentsAdded t f (cs ++ ds) a c
kept_join {a = a} k l = record {
  noted = k.noted ++ l.noted;
  renoted = renoted_join k.renoted l.renoted;
  list = l.list ∙ ap (λ z. z ++ l.noted) k.list ∙ append_assoc a k.noted l.noted;
}

-- some of all comments have been kept, and the others are left
pub record KeptUpto (t : List ℕ) (f : ℕ) (all a b left : List CommentValue) : Type 0 where
  pub some : List CommentValue
  pub kept : CommentsAdded t f some a b
  pub list : some ++ left ≡ all

pub kept_first : (t : List ℕ) (f : ℕ) (all a : List CommentValue) → KeptUpto t f all a a all
kept_first t f all a = record { some = []; kept = kept_none t f a; list = refl }

pub kept_next : {t : List ℕ} {f : ℕ} {all a b c : List CommentValue} (items : List Comment) (i : ℕ) (d : Comment) (n : Bool) → i < length items
    → FloorNote t f (comment_value (slice_index_or items i d)).offset n → KeptUpto t f all a b (map comment_value (drop i items)) → c ≡ b ++ record (comment_value (slice_index_or items i d)) { blank_before = n } ∷ []
    → KeptUpto t f all a c (map comment_value (drop (i + 1) items))
kept_next {a = a} items i d n l m k e =
    let x = comment_value (slice_index_or items i d) in
    let left = map comment_value (drop (i + 1) items) in
    record {
      some = k.some ++ x ∷ [];
      kept = record {
        noted = k.kept.noted ++ record x { blank_before = n } ∷ [];
        renoted = renoted_more x n m k.kept.renoted;
        list = e ∙ ap (λ z. z ++ record x { blank_before = n } ∷ []) k.kept.list ∙ append_assoc a k.kept.noted (record x { blank_before = n } ∷ []);
      };
      list = append_assoc k.some (x ∷ []) left ∙ ap (λ z. k.some ++ map comment_value z) (sym (drop_more items i d l)) ∙ k.list;
    }

pub kept_last : {t : List ℕ} {f : ℕ} {all a b : List CommentValue} (items : List Comment) (i : ℕ) → length items ≤ i → KeptUpto t f all a b (map comment_value (drop i items)) → CommentsAdded t f all a b
kept_last {t} {f} {a = a} {b = b} items i l k =
    subst (λ z. CommentsAdded t f z a b) (sym (append-nil k.some) ∙ ap (λ z. k.some ++ map comment_value z) (sym (drop_all i items l)) ∙ k.list) k.kept

module _ {t : List ℕ} where
  -- rows and marks
  pub rows_prefix : {i j : ℕ} {cs : List CommentValue} → Chain (Row t) i j cs → Chain (PrefixRow t) i j cs
  rows_prefix done = done
  rows_prefix (step r c) = step (line_row r) (rows_prefix c)

  pub prefix_functional : Functional (PrefixRow t)
  prefix_functional = record { one_end = λ a b. ends a b; one_meaning = λ a b. means a b; forward = λ a. later a } where
    ends : {i j k : ℕ} {x y : List CommentValue} → PrefixRow t i j x → PrefixRow t i k y → j ≡ k
    ends (mark_row e) (mark_row f) = refl
    ends {k = k} {y = y} (mark_row e) (line_row r) = absurd ((mark_still e).none k y r)
    ends {j = j} {x = x} (line_row r) (mark_row e) = absurd ((mark_still e).none j x r)
    ends (line_row r) (line_row s) = row_functional.one_end r s

    means : {i j k : ℕ} {x y : List CommentValue} → PrefixRow t i j x → PrefixRow t i k y → x ≡ y
    means (mark_row e) (mark_row f) = refl
    means {k = k} {y = y} (mark_row e) (line_row r) = absurd ((mark_still e).none k y r)
    means {j = j} {x = x} (line_row r) (mark_row e) = absurd ((mark_still e).none j x r)
    means (line_row r) (line_row s) = row_functional.one_meaning r s

    later : {i j : ℕ} {x : List CommentValue} → PrefixRow t i j x → i < j
    later (mark_row {i = i} e) = next_later t i
    later (line_row r) = r.later

  -- an empty line end, or none
  pub still_row : {i : ℕ} {x : List CommentValue} → Chosen (LineEnd t i) i x → Stuck (Row t i)
  still_row {i} c = record { none = λ j y r. let l = c.longest j y (rows_line_end (chain_one r) r.later) in let m = r.later in absurd (omega arith) }

  pub no_row : {i : ℕ} → Stuck (LineEnd t i) → Stuck (Row t i)
  no_row s = record { none = λ j y r. s.none j y (rows_line_end (chain_one r) r.later) }

  -- the steps of the reader
  pub prefix_begins : (f i : ℕ) (a : List CommentValue) → PrefixUpto t f i i a a
  prefix_begins f i a = record { comments = []; rows = done; kept = kept_none t f a }

  pub prefix_mark : {f i j k : ℕ} {a b : List CommentValue} → PrefixUpto t f i j a b → code t j ≡ 0xFEFF → k ≡ next t j → PrefixUpto t f i k a b
  prefix_mark {f} {i} {j} {k} {a} {b} p e n = record {
    comments = p.comments;
    rows = subst (λ z. Chain (PrefixRow t) i k z) (append-nil p.comments) (chain_more p.rows (subst (λ z. PrefixRow t j z []) (sym n) (mark_row e)));
    kept = p.kept;
  }

  pub prefix_lines : {f i j k : ℕ} {a b c cs : List CommentValue} → PrefixUpto t f i j a b → Chosen (LineEnd t j) k cs → CommentsAdded t f cs b c → PrefixUpto t f i k a c
  prefix_lines {cs = cs} p d k = record {
    comments = p.comments ++ cs;
    rows = chain_append p.rows (rows_prefix (line_end_rows d.derived));
    kept = kept_join p.kept k;
  }

  pub prefix_settled : {f i j k : ℕ} {a b c cs : List CommentValue} → PrefixUpto t f i j a b → code t j ≢ 0xFEFF → Chosen (LineEnd t j) k cs → CommentsAdded t f cs b c → k ≡ j → PrefixRead t f i j a c
  prefix_settled {f} {i} {j} {a = a} {c = c} {cs = cs} p n d k e = record {
    upto = subst (λ z. PrefixUpto t f i z a c) e (prefix_lines p d k);
    no_mark = n;
    no_row = still_row (subst (λ z. Chosen (LineEnd t j) z cs) e d);
  }

  -- at the start of a line or at the end of the text they are a run of l-document-prefix
  part_rows : {i j : ℕ} {cs : List CommentValue} → PrefixPart t i j cs → Chain (PrefixRow t) i j cs
  part_rows (order_mark e) = chain_one (mark_row e)
  part_rows (prefix_comment c) = rows_prefix (lines_rows (chain_one c))

  pub prefixes_rows : {i j : ℕ} {cs : List CommentValue} → Prefixes t i j cs → Chain (PrefixRow t) i j cs
  prefixes_rows done = done
  prefixes_rows (step s c) = chain_append (part_rows s) (prefixes_rows c)

  row_part : {i j : ℕ} {cs : List CommentValue} → LineStart t i → PrefixRow t i j cs → PrefixPart t i j cs
  row_part l (mark_row e) = order_mark e
  row_part l (line_row r) = prefix_comment (rest_line l r.rest)

  pub row_next : {i j : ℕ} {cs : List CommentValue} → LineStart t i → PrefixRow t i j cs → LineOrEnd t j
  row_next l (mark_row e) = inl (after_mark l e)
  row_next l (line_row r) = rest_next r.rest

  -- the reader passes them
  pub rows_parts : {i j : ℕ} {cs : List CommentValue} → LineOrEnd t i → Chain (PrefixRow t) i j cs → Prefixes t i j cs
  rows_parts l done = done
  rows_parts {i} l (step r c) = ⊎_elim
      (λ (s : LineStart t i). step (row_part s r) (rows_parts (row_next s r) c))
      (λ (e : i ≡ length t). absurd (no_row_there e r))
      l
    where
      no_row_there : {j : ℕ} {cs : List CommentValue} → i ≡ length t → PrefixRow t i j cs → ⊥
      no_row_there e (mark_row m) = let n = end_code t e in absurd (omega arith)
      no_row_there e (line_row q) = rest_at_end q.rest e q.later

  pub still : {j : ℕ} → code t j ≢ 0xFEFF → Stuck (Row t j) → Stuck (PrefixRow t j)
  still {j} n s = record { none = λ k x r. go r } where
    go : {k : ℕ} {x : List CommentValue} → PrefixRow t j k x → ⊥
    go (mark_row e) = n e
    go {k} {x} (line_row r) = s.none k x r

pub prefixes_are_read : PrefixesAreRead
prefixes_are_read t f i j a b l p =
    let c = chain_chosen prefix_functional p.upto.rows (still p.no_mark p.no_row) in
    record {
      derived = rows_parts l p.upto.rows;
      longest = λ k y d. c.longest k y (prefixes_rows d);
      only = λ y d. c.only y (prefixes_rows d);
    }
