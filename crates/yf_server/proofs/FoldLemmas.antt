-- The folds of a text, by a table of its lines.
use Rattle.std.proofs.Common.{◌≡◌, ◌∙◌, ℕ, zero, suc, ◌+◌, ◌<◌, ◌≤◌, add-one, Bool, List, [], ◌∷◌, ◌++◌, ⊎_elim, length, map, take, drop, get_or, set, ap, sym, refl, arith, Result, IfOk}
use Rattle.std.specs.Prelude.{flat_map, if◌then◌else◌}
use Rattle.std.proofs.Math.ListN.{get_or-append}
use Rattle.std.proofs.Math.Seq.{drop-cons, take-suc}
use Rattle.std.proofs.lemmas.Bool.{cases_eq, cases_lt, eq-eqb, ne_eqb}
use Rattle.std.proofs.lemmas.Grind.{flat_map-append, get_or-set_at}
use Rattle.std.proofs.lemmas.List.{append-nil, drop_all, get_or-set_other, get_or_default, get_or_push, length-append, map-append, take_all}
use Rattle.std.proofs.lemmas.Result.{IfOk-weaker}
use Rattle.std.specs.declared.alloc.AllocError.{AllocError}
use Rattle.serde_json.specs.Data.{Data}
use Rattle.serde_json.specs.declared.value.Value.{Value}
use Rattle.serde_json.specs.View.{view}
use Rattle.yf_positions.specs.Lines.{line_count}
use Rattle.yf_server.specs.declared.analysis.Foldable.{Foldable}
use Rattle.yf_server.specs.declared.folds.LineFold.{LineFold}
use Rattle.yf_server.specs.Folds.{fold_data, fold_if, folds_below, folds_data, folds_of, lines_of, longer, longest_on, one_line, one_lines}

-- a table of one line for each line
pub one_lines_count : (c : ℕ) → length (one_lines c) ≡ c
one_lines_count zero = refl
one_lines_count (suc c) =
    let l = length-append (one_lines c) (one_line c ∷ []) in
    let h = one_lines_count c in
    omega (arith, l, h)

pub one_lines_each : (c n : ℕ) → n < c → get_or (one_lines c) n (one_line n) ≡ one_line n
one_lines_each zero n l = absurd (omega arith)
one_lines_each (suc c) n l =
    let h = one_lines_count c in
    ⊎_elim (λ (b : n < c). get_or-append (one_lines c) (one_line c ∷ []) (one_line n) n (omega arith) ∙ one_lines_each c n b)
    (λ (b : c ≤ n).
    let same : c ≡ n = omega arith in
    ap (λ k. get_or (one_lines c ++ one_line k ∷ []) n (one_line n)) same
    ∙ get_or_push (one_lines c) (one_line n) (one_line n) n (h ∙ same))
    (cases_lt n c)

-- a fold that is kept in the table
pub kept_in : (table : List LineFold) (p : LineFold) (ps : List LineFold) (n : ℕ) → p.first < length table
    → longest_on n (get_or (set table p.first (longer (get_or table p.first p) p)) n (one_line n)) ps
    ≡ longest_on n (get_or table n (one_line n)) (p ∷ ps)
kept_in table p ps n within =
    let best = longer (get_or table p.first p) p in
    ⊎_elim (λ (e : p.first ≡ n).
    let here = eq-eqb p.first n e in
    let read = get_or_default table p.first p (one_line n) within in
    ap (λ x. longest_on n x ps) (get_or-set_at table p.first n best (one_line n) (sym e) within
    ∙ ap (λ x. longer x p) (read ∙ ap (λ k. get_or table k (one_line n)) e))
    ∙ sym (ap (λ (b : Bool). longest_on n (if b then longer (get_or table n (one_line n)) p else get_or table n (one_line n)) ps) here))
    (λ (e : p.first ≡ n → ⊥).
    let there = ne_eqb p.first n e in
    ap (λ x. longest_on n x ps) (get_or-set_other table p.first n best (one_line n) (λ s. e (sym s)))
    ∙ sym (ap (λ (b : Bool). longest_on n (if b then longer (get_or table n (one_line n)) p else get_or table n (one_line n)) ps) there))
    (cases_eq p.first n)

-- the folds of a table, if it has the longest of each line
front : (parts table : List LineFold) (c : ℕ) → length table ≡ c
    → ((n : ℕ) → n < c → get_or table n (one_line n) ≡ longest_on n (one_line n) parts)
    → (k : ℕ) → k ≤ c → flat_map fold_if (take k table) ≡ folds_below parts k
front parts table c same each zero h = refl
front parts table c same each (suc k) h =
    let x = get_or table k (one_line k) in
    ap (flat_map fold_if) (take-suc table k (one_line k) (omega arith))
    ∙ flat_map-append fold_if (take k table) (x ∷ [])
    ∙ ap (λ ys. ys ++ (fold_if x ++ [])) (front parts table c same each k (omega arith))
    ∙ ap (λ ys. folds_below parts k ++ ys) (append-nil (fold_if x))
    ∙ ap (λ f. folds_below parts k ++ fold_if f) (each k (omega arith))

pub table_folds : (parts table : List LineFold) (c : ℕ) → length table ≡ c
    → ((n : ℕ) → n < c → get_or table n (one_line n) ≡ longest_on n (one_line n) parts)
    → flat_map fold_if table ≡ folds_below parts c
table_folds parts table c same each =
    ap (flat_map fold_if) (sym (take_all c table (omega arith))) ∙ front parts table c same each c (omega arith)

-- one more fold of a table
pub folds_more : (table : List LineFold) (k : ℕ) (d : LineFold) → k < length table
    → flat_map fold_if (take (k + 1) table) ≡ flat_map fold_if (take k table) ++ fold_if (get_or table k d)
folds_more table k d within =
    let x = get_or table k d in
    let more : take (k + 1) table ≡ take k table ++ x ∷ [] = rw add-one (take-suc table k d within) in
    ap (flat_map fold_if) more ∙ flat_map-append fold_if (take k table) (x ∷ [])
    ∙ ap (λ ys. flat_map fold_if (take k table) ++ ys) (append-nil (fold_if x))

-- the rest of the parts, from one of them on
pub rest_at : (text : List ℕ) (parts : List Foldable) (k : ℕ) (d : Foldable) → k < length parts
    → map (lines_of text) (drop k parts) ≡ lines_of text (get_or parts k d) ∷ map (lines_of text) (drop (k + 1) parts)
rest_at text parts k d within =
    let rest : drop k parts ≡ get_or parts k d ∷ drop (k + 1) parts = rw add-one (drop-cons parts k d within) in
    ap (map (lines_of text)) rest

-- one more part
pub longest_kept : (text : List ℕ) (parts : List Foldable) (table after : List LineFold) (k n : ℕ) (d : Foldable)
    (fold : LineFold) → k < length parts → fold ≡ lines_of text (get_or parts k d) → fold.first < length table
    → after ≡ set table fold.first (longer (get_or table fold.first fold) fold)
    → longest_on n (get_or table n (one_line n)) (map (lines_of text) (drop k parts))
    ≡ longest_on n (one_line n) (map (lines_of text) parts)
    → longest_on n (get_or after n (one_line n)) (map (lines_of text) (drop (k + 1) parts))
    ≡ longest_on n (one_line n) (map (lines_of text) parts)
longest_kept text parts table after k n d fold within same below made inv =
    let rest = map (lines_of text) (drop (k + 1) parts) in
    ap (λ xs. longest_on n (get_or xs n (one_line n)) rest) made ∙ kept_in table fold rest n below
    ∙ ap (λ f. longest_on n (get_or table n (one_line n)) (f ∷ rest)) same
    ∙ ap (longest_on n (get_or table n (one_line n))) (sym (rest_at text parts k d within)) ∙ inv

-- no part is left
pub longest_done : (text : List ℕ) (parts : List Foldable) (table : List LineFold) (k n : ℕ) → length parts ≤ k
    → longest_on n (get_or table n (one_line n)) (map (lines_of text) (drop k parts))
    ≡ longest_on n (one_line n) (map (lines_of text) parts)
    → get_or table n (one_line n) ≡ longest_on n (one_line n) (map (lines_of text) parts)
longest_done text parts table k n past inv =
    sym (ap (λ xs. longest_on n (get_or table n (one_line n)) (map (lines_of text) xs)) (drop_all k parts past)) ∙ inv

-- the folds that parts give, by the table
pub folds_made : (text : List ℕ) (parts : List Foldable) (table rows : List LineFold) (r : Result Value AllocError)
    → rows ≡ table → length table ≡ line_count text
    → ((n : ℕ) → n < line_count text → get_or table n (one_line n) ≡ longest_on n (one_line n) (map (lines_of text) parts))
    → IfOk r (λ value. view value ≡ folds_data (flat_map fold_if rows)) → IfOk r (λ value. view value ≡ folds_data (folds_of text parts))
folds_made text parts table rows r is count longest h =
    IfOk-weaker r _ _ (λ value made. made ∙ ap (λ t. folds_data (flat_map fold_if t)) is
    ∙ ap folds_data (table_folds (map (lines_of text) parts) table (line_count text) count longest)) h

-- one more fold as JSON
pub folds_pushed : (table : List LineFold) (k : ℕ) (d : LineFold) (values : List Data) → k < length table
    → values ≡ map fold_data (flat_map fold_if (take k table))
    → values ++ map fold_data (fold_if (get_or table k d)) ≡ map fold_data (flat_map fold_if (take (k + 1) table))
folds_pushed table k d values within inv =
    ap (λ vs. vs ++ map fold_data (fold_if (get_or table k d))) inv
    ∙ sym (map-append fold_data (flat_map fold_if (take k table)) (fold_if (get_or table k d)))
    ∙ ap (map fold_data) (sym (folds_more table k d within))
