-- ASCII characters that one test classifies for plain scalars: those that it may contain beside any character; letters,
-- digits and _, which may begin it; and those that end its line in every context
use Rattle.std.specs.Prelude.{◌≡◌, ℕ, ◌+◌, Bool, true, false, ◌==◌, ◌||◌, List}
use Rattle.yf_chars.specs.declared.context.Ctx.{Ctx}
use Rattle.yf_chars.specs.Class.{is_between}
use Rattle.yf_chars.specs.Chain.{Stuck}
use Rattle.yf_chars.specs.Text.{code, CharAt}
use Rattle.yf_lines.specs.Basic.{ForbiddenLine, is_block}
use Rattle.yf_plain.specs.Plain.{is_plain_char, is_plain_first, PlainItem}

-- outside flow collections: all printable ones from $ on except :
unfoldable pub is_outer : ℕ → Bool
is_outer c = is_between 0x24 0x39 c || is_between 0x3B 0x7E c

-- also within them: all those except , [ ] { and }
unfoldable pub is_ordinary : ℕ → Bool
is_ordinary c = is_between 0x24 0x2B c || is_between 0x2D 0x39 c || is_between 0x3B 0x5A c || (c == 0x5C) || is_between 0x5E 0x7A c || (c == 0x7C) || (c == 0x7E)

-- a letter, a digit or _
unfoldable pub is_letter : ℕ → Bool
is_letter c = is_between 0x61 0x7A c || is_between 0x41 0x5A c || is_between 0x30 0x39 c || (c == 0x5F)

-- a character of one byte begins at i that a plain scalar may contain in the context
pub record OrdinaryAt (t : List ℕ) (c : Ctx) (i : ℕ) : Type 0 where
  pub reads : CharAt t i (code t i) (i + 1)
  pub plain : is_plain_char t c i ≡ true

-- a letter, a digit or _ begins at i: it may begin a plain scalar, and begins no forbidden line
pub record LetterAt (t : List ℕ) (i : ℕ) : Type 0 where
  pub reads : CharAt t i (code t i) (i + 1)
  pub first : (c : Ctx) → is_plain_first t c i ≡ true
  pub allowed : ForbiddenLine t i → ⊥

-- the plain scalar has no more characters on the line from i on
pub record EndAt (t : List ℕ) (i : ℕ) : Type 0 where
  pub ends : (c : Ctx) → Stuck (PlainItem t c i)
