-- The rows of an entry are printed around the nodes in it.
use Rattle.std.proofs.Common.{◌≡◌, ℕ, ◌-◌, Bool, true, false, not, ◌&&◌, List, [], ◌∷◌, ◌++◌, flat_map, replicate, Option, Some, None, refl, sym, ap, ◌∙◌, append_assoc, append-nil, true≢false}
use Rattle.std.specs.Prelude.{is_some}
use Rattle.yf_comments.specs.Comment.{CommentValue}
use Rattle.yf_events.specs.Tree.{Node, entry_start, is_block_collection, items_in, leaves, props_of, standing, starts_of_entry}
use Rattle.yf_events.specs.declared.event.Entry.{Entry}
use Rattle.yf_print.specs.declared.printer.Role as Printer
use Rattle.yf_print.specs.Passes.Drafts.{Draft, LineMarks, start_marked, trailing_if, opened, with_blank, with_start, with_key_trail, with_text, without_blank}
use Rattle.yf_laws.specs.Layouts.Layout.{may_be_blank_after}
use Rattle.yf_forms.specs.Nodes.Lines.{ended, is_empty_text}
use Rattle.yf_forms.specs.Nodes.OneLine.{colon_after, props_text, written}
use Rattle.yf_print.specs.Passes.PrintPass.{before_collection, collection_begun, entry_begun, has_props, is_after_sign, next_line}
use Rattle.yf_print.specs.Passes.PrintWork.{remarks_of}
use Rattle.yf_print.specs.Layouts.Rows.{Row, Start, before_node, begins_below, after_key, blank_before_entry, entry_row, is_dash, joined, key_row, one_line_row, plain_row, props_row, start_of}
use Rattle.yf_laws.proofs.Printer.ColumnsFed.{leaves_marked}
use Rattle.yf_laws.proofs.Printer.FedLemmas.{all_past, fed, key_text, with_row}
use Rattle.yf_laws.proofs.Printer.JoinLemmas.{IsHead, row_marks, edited, entry_below, entry_on_line, fed_append, fed_after, fed_on, fed_on_append, joined_fed, joined_on, past_append, past_edited}
use Rattle.yf_laws.proofs.Printer.LeafFed.{ColumnAt, put, put_value, row_met}
use Rattle.yf_laws.proofs.Printer.NotedLemmas.{Known, met, met_nothing}
use Rattle.yf_forms.proofs.Decide.FlagLemmas.{and_false as never}

-- rows that begin on the current line or on a line of their own
abbrev pub begun : Known → Bool → List Row → Draft → Draft
begun k true rows d = fed_on (remarks_of k.work) k.trail rows d
begun k false rows d = fed (remarks_of k.work) k.trail rows d

pub begun_none : (k : Known) (inline : Bool) (d : Draft) → begun k inline [] d ≡ d
begun_none k true d = refl
begun_none k false d = refl

abbrev pub filled : List Row → Bool
filled [] = false
filled (row ∷ rows) = true

pub begun_append : (k : Known) (inline : Bool) (xs ys : List Row) (d : Draft) → filled xs ≡ true
    → begun k inline (xs ++ ys) d ≡ fed (remarks_of k.work) k.trail ys (begun k inline xs d)
begun_append k true [] ys d e = absurd cc
begun_append k true (x ∷ xs) ys d e = fed_on_append (remarks_of k.work) k.trail x xs ys d
begun_append k false xs ys d e = fed_append (remarks_of k.work) k.trail xs ys d

pub filled_joined : (head : Row) (n : ℕ) (rows : List Row) → filled (joined head n rows) ≡ true
filled_joined head n [] = refl
filled_joined head n (row ∷ rows) = refl

pub filled_append : (xs ys : List Row) → filled xs ≡ true → filled (xs ++ ys) ≡ true
filled_append [] ys e = absurd cc
filled_append (x ∷ xs) ys e = refl

pub filled_pair : (head : Row) (o : Option CommentValue) (below : Bool) (rows : List Row) → filled (after_key head o below rows) ≡ true
filled_pair head (Some c) below rows = refl
filled_pair head None true rows = refl
filled_pair head None false rows = filled_joined head 1 rows

-- after spaces
pub after_filled : (k : Known) (n : ℕ) (rows : List Row) (d : Draft) → filled rows ≡ true
    → fed_on (remarks_of k.work) k.trail rows (with_text (replicate n 32) d) ≡ fed_after (remarks_of k.work) k.trail n rows d
after_filled k n [] d e = absurd cc
after_filled k n (row ∷ rows) d e = refl

-- Signs.

pub sign_begun : (k : Known) (inline : Bool) (column : ℕ) (text : List ℕ) (x : Node) (d : Draft)
    → with_text text (entry_begun k.work inline column (is_dash text) (standing x).entry d) ≡ begun k inline (entry_row column text x ∷ []) d
sign_begun k true column text x d = entry_on_line k.work k.trail column text x d
sign_begun k false column text x d = entry_below k.work k.trail column text x d

pub joined_begun : (k : Known) (inline : Bool) (head : Row) (n : ℕ) (rows : List Row) (d : Draft) → IsHead head
    → begun k inline (joined head n rows) d ≡ fed_after (remarks_of k.work) k.trail n rows (begun k inline (head ∷ []) d)
joined_begun k true head n rows d h = joined_on (remarks_of k.work) k.trail head n rows d h
joined_begun k false head n rows d h = joined_fed (remarks_of k.work) k.trail head n rows d h

-- Keys.

-- the start of an entry, if it isn't already printed
abbrev head_line : Known → Bool → ℕ → Option Entry → Draft → Draft
head_line k true column entry d = d
head_line k false column entry d = with_blank (blank_before_entry entry) (opened (remarks_of k.work) column d)

entry_past : (k : Known) (inline : Bool) (column : ℕ) (entry : Option Entry) (d : Draft)
    → entry_begun k.work inline column false entry d ≡ all_past k.work.reading.comments (starts_of_entry entry) (with_start (remarks_of k.work) (start_of column false (starts_of_entry entry)) (head_line k inline column entry d))
entry_past k true column None d = refl
entry_past k true column (Some e) d = refl
entry_past k false column None d = refl
entry_past k false column (Some e) d = refl

key_row_begun : (k : Known) (inline : Bool) (column : ℕ) (x : Node) (d : Draft)
    → with_row (remarks_of k.work) k.trail (key_row k.work.style column x) (head_line k inline column (standing x).entry d) ≡ begun k inline (key_row k.work.style column x ∷ []) d
key_row_begun k true column x d = refl
key_row_begun k false column x d = refl

no_text : (d : Draft) → with_text [] d ≡ d
no_text d = ap (λ w. record d { line = w }) (append-nil d.line)

key_met : (k : Known) (column place : ℕ) (x : Node) (w : List ℕ) (d : Draft) → (is_empty_text w ≡ true → (items_in x ≡ []) × (leaves x ≡ []))
    → fed_on (remarks_of k.work) k.trail (one_line_row place x w) d ≡ met k (items_in x) (leaves x) (with_text w d)
key_met k column place x [] d h =
    let none = h refl in
    sym (ap (λ w. met k w (leaves x) (with_text [] d)) none.0 ∙ (ap (λ w. met k [] w (with_text [] d)) none.1 ∙ (met_nothing k (with_text [] d) ∙ no_text d)))
key_met k column place x (b ∷ w) d h = sym (row_met k place (b ∷ w) (items_in x) (leaves x) d)

-- an entry's start, a text, the items in it, and the `:`
key_added : (k : Known) (column : ℕ) (x : Node) (d : Draft)
    → with_text (colon_after x) (met k (items_in x) (leaves x) (with_text (written k.work.style x) (all_past k.work.reading.comments (entry_start x) (with_start (remarks_of k.work) (start_of column false (entry_start x)) d))))
    ≡ with_row (remarks_of k.work) k.trail (key_row k.work.style column x) d
key_added k column x d =
    let cs : List CommentValue = k.work.reading.comments in
    let colon : List ℕ = colon_after x in
    let es : List ℕ = entry_start x in
    let is : List ℕ = items_in x in
    let start : Start = start_of column false es in
    let m : LineMarks = start_marked (remarks_of k.work) start d.marks in
    let marks : LineMarks = leaves_marked (leaves x) m in
    let e : Draft = with_start (remarks_of k.work) start d in
    let a : Draft = all_past cs es d in
    let trails : List ℕ = d.trails ++ flat_map k.trail (leaves x) in
    let begins : all_past cs es e ≡ edited d.line d.trails d.body d.may_follow m a = past_edited cs es d.line d.trails d.body d.may_follow m d in
    ap (λ w. with_text colon (met k is (leaves x) (with_text (written k.work.style x) w))) begins
    ∙ (ap (λ w. with_text colon w) (past_edited cs is (d.line ++ written k.work.style x) trails d.body d.may_follow marks a)
    ∙ (ap (λ w. edited w trails d.body d.may_follow marks (all_past cs is a)) (append_assoc d.line (written k.work.style x) colon)
    ∙ (ap (λ w. edited (d.line ++ (written k.work.style x ++ colon)) trails d.body d.may_follow marks w) (sym (past_append cs es is d))
    ∙ (sym (past_edited cs (es ++ is) (d.line ++ (written k.work.style x ++ colon)) trails d.body d.may_follow marks d)
    ∙ row_met k column (written k.work.style x ++ colon) (es ++ is) (leaves x) e))))

-- a key's text and its `:` on the line of its entry
pub key_begun : (k : Known) (inline : Bool) (column place : ℕ) (x : Node) (d : Draft) → (is_empty_text (written k.work.style x) ≡ true → (items_in x ≡ []) × (leaves x ≡ []))
    → with_text (colon_after x) (fed_on (remarks_of k.work) k.trail (one_line_row place x (written k.work.style x)) (entry_begun k.work inline column false (standing x).entry d))
    ≡ begun k inline (key_row k.work.style column x ∷ []) d
key_begun k inline column place x d h =
    ap (λ w. with_text (colon_after x) (fed_on (remarks_of k.work) k.trail (one_line_row place x (written k.work.style x)) w)) (entry_past k inline column (standing x).entry d)
    ∙ (ap (with_text (colon_after x)) (key_met k column place x (written k.work.style x) (all_past k.work.reading.comments (entry_start x) (with_start (remarks_of k.work) (start_of column false (entry_start x)) (head_line k inline column (standing x).entry d))) h)
    ∙ (key_added k column x (head_line k inline column (standing x).entry d) ∙ key_row_begun k inline column x d))

-- Values.

-- a head before the text of its node
before_text : (k : Known) (head : Row) (d : Draft)
    → without_blank (with_row (remarks_of k.work) k.trail head d) ≡ with_row (remarks_of k.work) k.trail (record head { ending = before_node }) d
before_text k head d =
    let cs : List CommentValue = k.work.reading.comments in
    let line : List ℕ = d.line ++ (head.text ++ key_text head.key_comment) in
    let trails : List ℕ = d.trails ++ flat_map k.trail head.leaves in
    let body : List ℕ = d.body ++ flat_map ended head.body in
    ap without_blank (past_edited cs head.items line trails body (d.may_follow && may_be_blank_after head.ending) (row_marks (remarks_of k.work) head d.marks) d)
    ∙ (ap (λ b. edited line trails body b (row_marks (remarks_of k.work) head d.marks) (all_past cs head.items d)) (sym (never d.may_follow))
    ∙ sym (past_edited cs head.items line trails body (d.may_follow && false) (row_marks (remarks_of k.work) head d.marks) d))

-- a head with a comment that trails its key
before_comment : (k : Known) (head : Row) (j : ℕ) (c : CommentValue) (d : Draft) → IsHead head → trailing_if k.work.reading.comments (Some j) ≡ key_text (Some c)
    → without_blank (with_key_trail k.work.reading.comments (Some j) (with_row (remarks_of k.work) k.trail head d))
    ≡ with_row (remarks_of k.work) k.trail (record head { key_comment = Some c; ending = before_node }) d
before_comment k head j c d h t =
    let cs : List CommentValue = k.work.reading.comments in
    let trails : List ℕ = d.trails ++ flat_map k.trail head.leaves in
    let body : List ℕ = d.body ++ flat_map ended head.body in
    let line : (d.line ++ (head.text ++ key_text head.key_comment)) ++ trailing_if cs (Some j) ≡ d.line ++ (head.text ++ key_text (Some c)) =
    ap (λ w. (d.line ++ (head.text ++ key_text w)) ++ trailing_if cs (Some j)) h.key
    ∙ (ap (λ w. (d.line ++ w) ++ trailing_if cs (Some j)) (append-nil head.text)
    ∙ (append_assoc d.line head.text (trailing_if cs (Some j)) ∙ ap (λ w. d.line ++ (head.text ++ w)) t)) in
    ap (λ w. without_blank (with_key_trail cs (Some j) w)) (past_edited cs head.items (d.line ++ (head.text ++ key_text head.key_comment)) trails body (d.may_follow && may_be_blank_after head.ending) (row_marks (remarks_of k.work) head d.marks) d)
    ∙ (ap (λ b. edited ((d.line ++ (head.text ++ key_text head.key_comment)) ++ trailing_if cs (Some j)) trails body b (row_marks (remarks_of k.work) head d.marks) (all_past cs head.items d)) (sym (never d.may_follow))
    ∙ (ap (λ w. edited w trails body (d.may_follow && false) (row_marks (remarks_of k.work) head d.marks) (all_past cs head.items d)) line
    ∙ sym (past_edited cs head.items (d.line ++ (head.text ++ key_text (Some c))) trails body (d.may_follow && false) (row_marks (remarks_of k.work) head d.marks) d)))

pub value_begun : (k : Known) (inline : Bool) (head : Row) (o : Option ℕ) (q : Option CommentValue) (below : Bool) (rows : List Row) (d : Draft) → IsHead head
    → trailing_if k.work.reading.comments o ≡ key_text q → is_some o ≡ is_some q
    → put_value k o below rows (begun k inline (head ∷ []) d) ≡ begun k inline (after_key head q below rows) d
value_begun k true head None None true rows d h t s = ap (fed (remarks_of k.work) k.trail rows) (before_text k head d)
value_begun k false head None None true rows d h t s =
    ap (fed (remarks_of k.work) k.trail rows) (before_text k head (with_blank head.blank_before (opened (remarks_of k.work) head.column d)))
value_begun k inline head None None false rows d h t s = sym (joined_begun k inline head 1 rows d h)
value_begun k true head (Some j) (Some c) below rows d h t s = ap (fed (remarks_of k.work) k.trail rows) (before_comment k head j c d h t)
value_begun k false head (Some j) (Some c) below rows d h t s =
    ap (fed (remarks_of k.work) k.trail rows) (before_comment k head j c (with_blank head.blank_before (opened (remarks_of k.work) head.column d)) h t)
value_begun k inline head None (Some c) below rows d h t s = absurd cc
value_begun k inline head (Some j) None below rows d h t s = absurd cc

-- Block collections.

abbrev pub is_key : Printer.Role → Bool
is_key Printer.Role.Root = false
is_key (Printer.Role.After column) = false
is_key Printer.Role.Key = true
is_key (Printer.Role.Value column) = false

-- the line of the properties
props_added : (k : Known) (place b : ℕ) (p : List ℕ) (d : Draft)
    → with_text (b ∷ p) (without_blank d) ≡ with_row (remarks_of k.work) k.trail (record (plain_row place (b ∷ p)) { ending = before_node }) d
props_added k place b p d =
    sym (ap (λ w. record d { line = d.line ++ w; trails = d.trails ++ []; body = d.body ++ []; may_follow = d.may_follow && false }) (append-nil (b ∷ p))
    ∙ (ap (λ w. record d { line = d.line ++ (b ∷ p); trails = w; body = d.body ++ []; may_follow = d.may_follow && false }) (append-nil d.trails)
    ∙ (ap (λ w. record d { line = d.line ++ (b ∷ p); body = w; may_follow = d.may_follow && false }) (append-nil d.body)
    ∙ ap (λ w. record d { line = d.line ++ (b ∷ p); may_follow = w }) (never d.may_follow))))

collection_by : (k : Known) (sp : Printer.Role) (p : List ℕ) (place : ℕ) (rows : List Row) (d : Draft) → filled rows ≡ true
    → ColumnAt k.work.style.indent None sp place → is_key sp ≡ false
    → begun k (not (not (is_empty_text p)) && is_after_sign sp) rows (with_text p (before_collection k.work (not (is_empty_text p)) sp d))
    ≡ put k None (is_empty_text p) sp (props_row place p ++ rows) d
collection_by k Printer.Role.Root [] place rows d f c n = ap (fed (remarks_of k.work) k.trail rows) (no_text d)
collection_by k (Printer.Role.After column) [] place rows d f c n =
    ap (fed_on (remarks_of k.work) k.trail rows) (no_text (with_text (replicate (k.work.style.indent - 1) 32) d)) ∙ after_filled k (k.work.style.indent - 1) rows d f
collection_by k (Printer.Role.Value column) [] place rows d f c n = ap (fed (remarks_of k.work) k.trail rows) (no_text (without_blank d))
collection_by k Printer.Role.Root (b ∷ p) place rows d f c n =
    ap (fed (remarks_of k.work) k.trail rows) (props_added k place b p (next_line k.work 0 d)
    ∙ ap (λ m. with_row (remarks_of k.work) k.trail (record (plain_row place (b ∷ p)) { ending = before_node }) (opened (remarks_of k.work) m d)) (sym c))
collection_by k (Printer.Role.After column) (b ∷ p) place rows d f c n =
    ap (fed (remarks_of k.work) k.trail rows) (props_added k place b p (with_text (replicate (k.work.style.indent - 1) 32) d))
collection_by k (Printer.Role.Value column) (b ∷ p) place rows d f c n = ap (fed (remarks_of k.work) k.trail rows) (props_added k place b p (with_text (32 ∷ []) d))
collection_by k Printer.Role.Key p place rows d f c n = absurd (true≢false n)

pub collection_put : (k : Known) (sp : Printer.Role) (x : Node) (place : ℕ) (rows : List Row) (d : Draft) → is_block_collection x ≡ true → filled rows ≡ true
    → ColumnAt k.work.style.indent None sp place → is_key sp ≡ false
    → begun k (not (has_props (props_of x)) && is_after_sign sp) rows (collection_begun k.work (props_of x) sp d)
    ≡ put k None (begins_below x) sp (props_row place (props_text (props_of x)) ++ rows) d
collection_put k sp x place rows d b f c n =
    collection_by k sp (props_text (props_of x)) place rows d f c n
    ∙ ap (λ w. put k None (w && is_empty_text (props_text (props_of x))) sp (props_row place (props_text (props_of x)) ++ rows) d) (sym b)
