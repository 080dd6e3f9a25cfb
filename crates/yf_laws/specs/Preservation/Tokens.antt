-- The allowed tabs in a line of a formatted text that is not a line of a block scalar.
use Rattle.std.specs.Prelude.{◌≡◌, ◌≢◌, ℕ, List, [], ◌∷◌, ◌++◌, chars, flat_map, map}
use Rattle.yf_quoted.specs.Written.{single_bytes}
use Rattle.yf_events.specs.Event.{EventValue, EventInText, scalar_node}
use Rattle.yf_events.specs.declared.event.ScalarStyle.TheVariants.{Plain, Single}
use Rattle.yf_events.specs.declared.lists.Lists.{Lists}
use Rattle.yf_forms.specs.Nodes.Lines.{trimmed}

-- the text is one of these
pub data HasText (w : List ℕ) : List (List ℕ) → Type 0 where
  first_text : {v : List ℕ} {ws : List (List ℕ)} → w ≡ v → HasText w (v ∷ ws)
  later_text : {v : List ℕ} {ws : List (List ℕ)} → HasText w ws → HasText w (v ∷ ws)

-- the written text of a plain or single-quoted scalar
abbrev pub tokens_of_event : EventValue → List (List ℕ)
tokens_of_event (scalar_node props Plain text) = text ∷ []
tokens_of_event (scalar_node props Single text) = single_bytes (chars text) ∷ []
tokens_of_event e = []

abbrev pub tokens_in : List EventInText → List (List ℕ)
tokens_in es = flat_map (λ (e : EventInText). tokens_of_event e.event) es

-- the comments, without the white space at their ends
abbrev pub comment_texts : Lists → List (List ℕ)
comment_texts q = map (λ c. trimmed c.text) q.comments

abbrev pub IsToken : Lists → List ℕ → Type 0
IsToken q w = HasText w (tokens_in q.events ++ comment_texts q)

-- a line's text consists of tokens and of other bytes, none of them a tab
pub data TabsWithin (Token : List ℕ → Type 0) : List ℕ → Type 0 where
  at_end : TabsWithin Token []
  no_tab : {b : ℕ} {x : List ℕ} → b ≢ 9 → TabsWithin Token x → TabsWithin Token (b ∷ x)
  a_token : {w x : List ℕ} → Token w → TabsWithin Token x → TabsWithin Token (w ++ x)
