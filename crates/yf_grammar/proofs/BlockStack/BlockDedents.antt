-- A line after an entry of an open block collection: it begins the next entry, breaks the collection, or ends one or
-- several.
use Rattle.std.proofs.Common.{◌≡◌, ℕ, suc, ◌+◌, ◌<◌, ◌≤◌, Bool, true, false, List, [], ◌∷◌, ◌++◌, length, Option, refl, sym, ap, ◌∙◌, subst, arith, true≢false}
use Rattle.yf_grammar.specs.Productions.Grammar.{ColonLine}
use Rattle.yf_grammar.specs.FlowReader.Parser.{ParsedNode}
use Rattle.yf_grammar.specs.BlockReader.BlockParser.{DashAt, LineText, NextEntry, next_item, next_pair, NoEntry, DeeperLine, BlockTask}
use Rattle.yf_grammar.specs.BlockReader.BlockStack.{Layer, asks, rounds}
use Rattle.yf_grammar.specs.BlockReader.BlockStates.{NodeRead, EndsHere, AllEnd, all_ended, one_ends, AllDeeper, no_more, one_deeper}
use Rattle.yf_grammar.proofs.BlockOutcomes.BlockClaims.{line_unique, colon_line}
use Rattle.yf_grammar.proofs.BlockStack.BlockResume.{entry_was_read, collection_ends}

-- a collection ends before no line, a line that is less deep, or a line without the `-` of an item
next_line : {t : List ℕ} {s : Bool} {m k : ℕ} → NextEntry t s m k → (p : ℕ) × LineText t k m p
next_line (next_item {p = p} w d) = (p, w)
next_line (next_pair {p = p} w) = (p, w)

next_dash : {t : List ℕ} {s : Bool} {m k : ℕ} → s ≡ true → NextEntry t s m k → DashAt t (k + m)
next_dash e (next_item w d) = d
next_dash e (next_pair w) = absurd (true≢false (sym e))

pub no_line_ends : {t : List ℕ} {at : ℕ} {l : Layer} → ((m p : ℕ) → LineText t at m p → ⊥) → EndsHere t at l
no_line_ends {at = at} {l = l} n = record {
  no_entry = record { no_next = λ z. let w = next_line z in n l.column w.0 w.1; not_deeper = λ m p w. absurd (n m p w) };
  no_colon = λ e c. n l.column (at + l.column) (colon_line c);
}

pub less_deep_ends : {t : List ℕ} {at m p : ℕ} {l : Layer} → LineText t at m p → m < l.column → EndsHere t at l
less_deep_ends {at = at} {l = l} w d = record {
  no_entry = record {
    no_next = λ z. let e = (line_unique w (next_line z).1).0 in omega (arith, e, d);
    not_deeper = λ k q v. let e = (line_unique w v).0 in omega (arith, e, d);
  };
  no_colon = λ e c. let y = (line_unique w (colon_line c)).0 in omega (arith, y, d);
}

pub no_item_ends : {t : List ℕ} {at p : ℕ} {l : Layer} → LineText t at l.column p → l.sequence ≡ true → asks l.stage ≡ false → (DashAt t (at + l.column) → ⊥)
    → EndsHere t at l
no_item_ends w s a d = record {
  no_entry = record {
    no_next = λ z. d (next_dash s z);
    not_deeper = λ k q v. let e = (line_unique w v).0 in omega (arith, e);
  };
  no_colon = λ e c. true≢false (sym e ∙ a);
}

-- a deeper line, and the next entry
pub deeper_line : {t : List ℕ} {at m n p : ℕ} → LineText t at m p → n < m → DeeperLine t n at
deeper_line {m = m} {p = p} w d = record { column = m; first = p; line = w; deep = d }

pub item_follows : {t : List ℕ} {s : Bool} {at m p : ℕ} → LineText t at m p → s ≡ true → DashAt t (at + m) → NextEntry t s m at
item_follows {t} {at = at} {m = m} w s d = subst (λ b. NextEntry t b m at) (sym s) (next_item w d)

pub pair_follows : {t : List ℕ} {s : Bool} {at m p : ℕ} → LineText t at m p → s ≡ false → NextEntry t s m at
pair_follows {t} {at = at} {m = m} w s = subst (λ b. NextEntry t b m at) (sym s) (next_pair w)

-- one line ends several collections
pub collections_end : {t : List ℕ} {d : ℕ} {root : BlockTask} {at : ℕ} {ls : List Layer} {h : Option ParsedNode} {xs : List Layer} {e : ℕ} {f : ParsedNode} → AllEnd t at xs → NodeRead t d root (xs ++ ls) e f at h
    → NodeRead t d root ls (length xs + e) (rounds xs f) at h
collections_end {t} {d} {root} {at} {ls} {h} {e = e} {f = f} all_ended r = subst (λ (z : ℕ). NodeRead t d root ls z f at h) (omega arith) r
collections_end {t} {d} {root} {at} {ls} {h} {xs = l ∷ xs} {e = e} {f = f} (one_ends n a) r =
    let rest = collections_end a (collection_ends (entry_was_read r n.no_colon) n.no_entry) in
    subst (λ (z : ℕ). NodeRead t d root ls z (rounds (l ∷ xs) f) at h) (omega arith) rest

-- a line that is less deep than all of them ends them, and so does the end of the lines
pub dedent_ends : {t : List ℕ} {at m p : ℕ} {ls : List Layer} → LineText t at m p → AllDeeper m ls → AllEnd t at ls
dedent_ends w no_more = all_ended
dedent_ends w (one_deeper d a) = one_ends (less_deep_ends w d) (dedent_ends w a)

pub want_ends : {t : List ℕ} {at : ℕ} → ((m p : ℕ) → LineText t at m p → ⊥) → (ls : List Layer) → AllEnd t at ls
want_ends n [] = all_ended
want_ends n (l ∷ ls) = one_ends (no_line_ends n) (want_ends n ls)
