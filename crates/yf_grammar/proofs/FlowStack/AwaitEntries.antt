-- The entries of a flow collection that is read: from one entry to the next, and up to the closing bracket.
use Rattle.std.proofs.Common.{◌≡◌, ◌≢◌, ℕ, suc, max, ◌+◌, ℤ, Bool, true, List, [], ◌++◌, Option, Some, None, refl, ap, ◌∙◌, subst, arith, append_assoc, append-nil}
use Rattle.yf_chars.specs.declared.context.Ctx.{Ctx}
use Rattle.yf_chars.specs.Text.{code}
use Rattle.yf_comments.specs.Comment.{CommentValue}
use Rattle.yf_grammar.specs.Productions.Grammar.{in_flow, opening, closing}
use Rattle.yf_grammar.specs.Productions.Meaning.{Meaning, ◌⊕◌, meaning_after, noting, collection}
use Rattle.yf_grammar.specs.FlowReader.Parser.{ParsedNode, found, Gap, AContent, TheEntries, AnEntry, Parses, bracketed, joined, only, Task}
use Rattle.yf_grammar.specs.FlowReader.Parser.Parses.{collection_read, collection_missed, entries_end, entry_missed, entry_last, entry_then, entry_then_missed, entry_unclosed}
use Rattle.yf_grammar.specs.FlowReader.FlowContinuations.{closed, ended_at, EntriesAwaited, SeparationAwaited, IsEntry}

pub plus_assoc : (x y z : Meaning) → x ⊕ (y ⊕ z) ≡ x ⊕ y ⊕ z
unfolding ◌⊕◌
plus_assoc x y z = rw (append_assoc x.events y.events z.events, append_assoc x.comments y.comments z.comments, append_assoc x.escapes y.escapes z.escapes) refl

pub noting_last : (x y : Meaning) (cs : List CommentValue) → noting (x ⊕ y) cs ≡ x ⊕ noting y cs
unfolding ◌⊕◌ noting
noting_last x y cs = rw (append_assoc x.comments y.comments cs) refl

-- an outcome in another form
pub read_as : {t : List ℕ} {e : ℕ} {task : Task} {o p : Option ParsedNode} → o ≡ p → Parses t e task o → Parses t e task p
read_as {t} {e} {task} q r = subst (λ w. Parses t e task w) q r

pub max-zero-left : (h : ℕ) → max 0 h ≡ h
max-zero-left h = omega arith

bracketed_is : (sequence : Bool) (i : ℕ) (cs : List CommentValue) (f : ParsedNode) → bracketed sequence i cs f ≡ Some (closed sequence i 0 (noting (only [] 0) cs) f)
unfolding bracketed found meaning_after noting only ◌⊕◌
bracketed_is sequence i cs f = rw (max-zero-left f.height) refl

joined_closed : (sequence : Bool) (i h : ℕ) (x : Meaning) (f : ParsedNode) (cs : List CommentValue) (g : ParsedNode)
    → closed sequence i h x (record { end = g.end; height = max f.height g.height; json = true; meaning = noting f.meaning cs ⊕ g.meaning })
    ≡ closed sequence i (max h f.height) (x ⊕ noting f.meaning cs) g
joined_closed sequence i h x f cs g = ap (λ (z : ℕ). record { end = g.end + 1; height = suc z; json = true; meaning = collection sequence true i (g.end + 1) (x ⊕ (noting f.meaning cs ⊕ g.meaning)) }) (omega arith)
    ∙ ap (λ w. record { end = g.end + 1; height = suc (max (max h f.height) g.height); json = true; meaning = collection sequence true i (g.end + 1) w }) (plus_assoc x (noting f.meaning cs) g.meaning)

pub found_is : (j h : ℕ) (b : Bool) (x : Meaning) → found j h b x ≡ Some (record { end = j; height = h; json = b; meaning = x })
unfolding found
found_is j h b x = refl

joined_is : (f : ParsedNode) (cs : List CommentValue) (g : ParsedNode)
    → joined f cs g ≡ Some (record { end = g.end; height = max f.height g.height; json = true; meaning = noting f.meaning cs ⊕ g.meaning })
unfolding joined found
joined_is f cs g = refl

closed_nothing : (sequence : Bool) (i h k : ℕ) (x : Meaning) → closed sequence i h x (record { end = k; height = 0; json = true; meaning = only [] k }) ≡ ended_at sequence i h x k
unfolding collection ◌⊕◌ only
closed_nothing sequence i h k x = rw (append-nil x.events, append-nil x.comments, append-nil x.escapes) (ap (λ (z : ℕ). record { end = k + 1; height = suc z; json = true; meaning = collection sequence true i (k + 1) x }) (omega arith))

noted_again : (sequence : Bool) (i h : ℕ) (x y : Meaning) (cs ds : List CommentValue) (f : ParsedNode)
    → closed sequence i h (x ⊕ noting y (cs ++ ds)) f ≡ closed sequence i h (noting (x ⊕ noting y cs) ds) f
unfolding ◌⊕◌ noting
noted_again sequence i h x y cs ds f = rw (append_assoc x.comments (y.comments ++ cs) ds, append_assoc y.comments cs ds) refl

closed_last : (sequence : Bool) (i h k : ℕ) (x y : Meaning) (g : ℕ) → closed sequence i h x (record { end = k; height = g; json = true; meaning = y }) ≡ ended_at sequence i (max h g) (x ⊕ y) k
closed_last sequence i h k x y g = refl

module _ {t : List ℕ} {e i : ℕ} {sequence : Bool} {n : ℤ} {c : Ctx} where
  -- a bracket was read
  pub entries_opened : (k : ℕ) (cs : List CommentValue) → code t i ≡ opening sequence → Gap t n c (i + 1) k cs
      → EntriesAwaited t e sequence n c (in_flow c) i 0 (noting (only [] 0) cs) k
  entries_opened k cs b s = record {
    some = λ g p. read_as (bracketed_is sequence i cs g) (collection_read sequence b s p);
    none = λ p. collection_missed sequence cs b s p;
  }

module _ {t : List ℕ} {e : ℕ} {sequence : Bool} {n : ℤ} {c d : Ctx} {i h : ℕ} {x : Meaning} where
  -- the bracket that closes the collection
  pub entries_closed : {k : ℕ} → EntriesAwaited t e sequence n c d i h x k → code t k ≡ closing sequence
      → Parses t (suc e) (AContent n c i) (Some (ended_at sequence i h x k))
  entries_closed {k} a b =
      let p : Parses t e (TheEntries sequence n d k) (Some (record { end = k; height = 0; json = true; meaning = only [] k })) = read_as (found_is k 0 true (only [] k)) (entries_end b) in
      read_as (ap (λ w. Some w) (closed_nothing sequence i h k x)) (a.some _ p)

module _ {t : List ℕ} {e : ℕ} {sequence : Bool} {n : ℤ} {c d : Ctx} {i h : ℕ} {x : Meaning} {s : ℕ} (a : EntriesAwaited t e sequence n c d i h x s) (no : code t s ≢ closing sequence) where
  -- no entry
  pub entry_fails : Parses t e (AnEntry sequence n d s) None → Parses t (suc e) (AContent n c i) None
  entry_fails p = a.none (entry_missed no p)

  module _ {j k g : ℕ} {y : Meaning} {cs : List CommentValue} (r : IsEntry t e sequence n d s j g y) (q : Gap t n d j k cs) where
    -- an entry, and the bracket that closes the collection
    pub entry_closes : code t k ≡ closing sequence → Parses t (suc e) (AContent n c i) (Some (ended_at sequence i (max h g) (x ⊕ noting y cs) k))
    entry_closes b =
        let p : Parses t e (TheEntries sequence n d s) (Some (record { end = k; height = g; json = true; meaning = noting y cs })) = read_as (found_is k g true (noting y cs)) (entry_last no r.read q b) in
        a.some _ p

    -- an entry with neither a comma nor that bracket after it
    pub entry_stays_open : code t k ≢ closing sequence → code t k ≢ 44 → Parses t (suc e) (AContent n c i) None
    entry_stays_open b f = a.none (entry_unclosed cs no r.read q b f)

    -- an entry and a comma
    pub entry_passes : code t k ≡ 44 → SeparationAwaited t e sequence n c d i (max h g) (x ⊕ noting y cs) (k + 1)
    entry_passes b = record {
      past = λ m ds s. record {
        some = λ f p.
            let l = read_as (joined_is (record { end = j; height = g; json = r.json; meaning = y }) (cs ++ ds) f) (entry_then no r.read q b s p) in
            read_as (ap (λ w. Some w) (joined_closed sequence i h x (record { end = j; height = g; json = r.json; meaning = y }) (cs ++ ds) f ∙ noted_again sequence i (max h g) x y cs ds f)) (a.some _ l);
        none = λ p. a.none (entry_then_missed cs ds no r.read q b s p);
      };
    }
