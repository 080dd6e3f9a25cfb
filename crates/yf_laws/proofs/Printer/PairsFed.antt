-- The rows of a pair are printed for a key and its value.
use Rattle.std.proofs.Common.{◌≡◌, ℕ, ◌-◌, Bool, true, false, ◌&&◌, List, [], ◌∷◌, codes, Option, Some, None, refl, sym, ap, ◌∙◌}
use Rattle.std.specs.Prelude.{◌||◌, is_some, nat_lt, option_map, suc, find, if◌then◌else◌}
use Rattle.yf_comments.specs.Comment.{CommentValue}
use Rattle.yf_events.specs.Tree.{Node, is_filled_flow, is_text, items_in, leaves, standing}
use Rattle.yf_events.specs.declared.event.Entry.{Entry}
use Rattle.yf_events.specs.declared.event.Span.{Span}
use Rattle.yf_forms.specs.declared.form.decide.Form.{Form}
use Rattle.yf_print.specs.Passes.Drafts.{Draft, trailing_if, with_text}
use Rattle.yf_forms.specs.NormalForms.Forms.{first_index, index_between, key_comment_index}
use Rattle.yf_forms.specs.NormalForms.Normal as Normal
use Rattle.yf_forms.specs.NormalForms.Normal.{LayoutSetting, first_between, key_comment}
use Rattle.yf_forms.specs.Nodes.OneLine.{colon_after, written}
use Rattle.yf_print.specs.Passes.PrintPass.{entry_begun, key_role, question_if, sign_in, role_in, value_awaited, with_colon}
use Rattle.yf_print.specs.Passes.PrintWork.{remarks_of}
use Rattle.yf_print.specs.Layouts.Rows.{Row, begins_below, after_sign, colon_row, entry_row, explicit_pair, implicit_pair, key_row, one_line_row}
use Rattle.yf_forms.specs.Nodes.Lines.{is_empty_text}
use Rattle.yf_laws.proofs.Printer.EntriesFed.{begun, begun_append, filled_joined, joined_begun, key_begun, sign_begun, value_begun}
use Rattle.yf_laws.proofs.Printer.FedLemmas.{key_text}
use Rattle.yf_laws.proofs.Printer.JoinLemmas.{fed_after, fed_on, joined_fed}
use Rattle.yf_laws.proofs.Printer.LeafFed.{put, put_value, with_colon_of}
use Rattle.yf_laws.proofs.Printer.LeafPrinted.{setting_in}
use Rattle.yf_laws.proofs.Printer.NotedLemmas.{Known}
use Rattle.yf_laws.proofs.Printer.SignLemmas.{colon_fed}

-- The comment at the index of the comment that trails a key is that comment.

found_text : (p : CommentValue → Bool) (cs : List CommentValue) → trailing_if cs (first_index p cs) ≡ key_text (find p cs)
found_text p [] = refl
found_text p (c ∷ cs) = by (p c) (found_text p cs) where
  shifted : (o : Option ℕ) → trailing_if (c ∷ cs) (option_map suc o) ≡ trailing_if cs o
  shifted None = refl
  shifted (Some j) = refl

  by : (b : Bool) → trailing_if cs (first_index p cs) ≡ key_text (find p cs) → trailing_if (c ∷ cs) (if b then Some 0 else option_map suc (first_index p cs)) ≡ key_text (if b then Some c else find p cs)
  by true h = refl
  by false h = shifted (first_index p cs) ∙ h

pub comment_text : (cs : List CommentValue) (k v : Node) → trailing_if cs (key_comment_index cs k v) ≡ key_text (key_comment cs k v)
comment_text cs k v = by (is_text v || is_filled_flow v) (leaves v) where
  by : (b : Bool) (ss : List Span)
      → trailing_if cs (if b then index_between cs (Normal.key_start k) ss else None) ≡ key_text (if b then first_between cs (Normal.key_start k) ss else None)
  by true [] = refl
  by true (s ∷ ss) = found_text (λ c. nat_lt (Normal.key_start k) c.offset && nat_lt c.offset s.start) cs
  by false ss = refl

-- b says whether the key x is implicit; o is the comment that trails it, and xs and ys are the rows of the key and of
-- its value y
pub pair_fed : (k : Known) (inline b : Bool) (column place : ℕ) (x y : Node) (f : Form) (entry : Option Entry) (o : Option ℕ) (xs ys : List Row) (d : Draft)
    → (b ≡ true → xs ≡ one_line_row place x (written k.work.style x)) → (b ≡ true → is_empty_text (written k.work.style x) ≡ true → (items_in x ≡ []) × (leaves x ≡ []))
    → (b ≡ true → trailing_if k.work.reading.comments o ≡ key_text (key_comment k.work.reading.comments x y))
    → (b ≡ true → is_some o ≡ is_some (key_comment k.work.reading.comments x y))
    → with_colon_of y (role_in f column (value_awaited b (standing x).entry)) (put k o (begins_below y) (role_in f column (value_awaited b (standing x).entry)) ys
    (sign_in k.work f entry false column (value_awaited b (standing x).entry)
    (with_colon_of x (key_role b column) (put k None (begins_below x) (key_role b column) xs (question_if b (entry_begun k.work inline column false (standing x).entry d))))))
    ≡ begun k inline (if b then implicit_pair (setting_in k) column x y ys else explicit_pair k.work.style column x xs ys) d
pair_fed k inline true column place x y f entry o xs ys d r e t s =
    ap (λ w. put_value k o (begins_below y) ys (with_text (colon_after x) (fed_on (remarks_of k.work) k.trail w (entry_begun k.work inline column false (standing x).entry d)))) (r refl)
    ∙ (ap (λ w. put_value k o (begins_below y) ys w) (key_begun k inline column place x d (e refl))
    ∙ value_begun k inline (key_row k.work.style column x) o (key_comment k.work.reading.comments x y) (begins_below y) ys d (record { key = refl; body = refl; ending = refl }) (t refl) (s refl))
pair_fed k inline false column place x y f entry o xs ys d r e t s =
    let n : ℕ = k.work.style.indent - 1 in
    let before : List Row = after_sign k.work.style (entry_row column (codes "?") x) xs in
    let key : fed_after (remarks_of k.work) k.trail n xs (with_text (codes "?") (entry_begun k.work inline column false (standing x).entry d)) ≡ begun k inline before d =
    ap (λ w. fed_after (remarks_of k.work) k.trail n xs w) (sign_begun k inline column (codes "?") x d)
    ∙ sym (joined_begun k inline (entry_row column (codes "?") x) n xs d (record { key = refl; body = refl; ending = refl })) in
    ap (λ w. fed_after (remarks_of k.work) k.trail n ys (with_colon k.work column (standing x).entry w)) key
    ∙ (ap (λ w. fed_after (remarks_of k.work) k.trail n ys w) (colon_fed k.work k.trail column x (begun k inline before d))
    ∙ (sym (joined_fed (remarks_of k.work) k.trail (colon_row column x) n ys (begun k inline before d) (record { key = refl; body = refl; ending = refl }))
    ∙ sym (begun_append k inline before (after_sign k.work.style (colon_row column x) ys) d (filled_joined (entry_row column (codes "?") x) n xs))))
