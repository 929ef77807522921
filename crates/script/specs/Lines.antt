-- The lines of a script. Each ends with a line feed, byte 10, which the last may lack.
use Rattle.std.specs.Prelude.{◌≡◌, ℕ, ◌<◌, if◌then◌else◌, ◌⊎◌, List, [], ◌∷◌, ◌++◌, length, Some, None, Option, ◌==◌, ◌≢◌, All, flat_map}
use Rattle.script.specs.declared.lines.FirstLine.{FirstLine}
use Rattle.script.specs.declared.lines.Lines.{Lines}

-- One more byte in front of the first line.
abbrev pub before : ℕ → List (List ℕ) → List (List ℕ)
before c [] = (c ∷ []) ∷ []
before c (l ∷ ls) = (c ∷ l) ∷ ls

-- The lines, without their line feeds.
unfoldable pub lines_of : List ℕ → List (List ℕ)
lines_of [] = []
lines_of (c ∷ cs) = if c == 10 then [] ∷ lines_of cs else before c (lines_of cs)

-- What is left of a script to go over.
abbrev pub left_of : Lines → List ℕ
left_of lines = lines.script.now

-- A line with its line feed.
abbrev pub ended : List ℕ → List ℕ
ended line = line ++ (10 ∷ [])

-- A line holds no line feed.
abbrev pub Whole : List ℕ → Type 0
Whole line = All (λ c. c ≢ 10) line

-- The lines of a script are those that hold no line feed and, each with its line feed, make up the script;
-- where the script ends with another byte, they make up the script and one line feed more.
abbrev pub AreLines : List ℕ → List (List ℕ) → Type 0
AreLines script lines =
    All Whole lines × ((flat_map ended lines ≡ script) ⊎ ((front : List ℕ) × (c : ℕ) × (script ≡ front ++ (c ∷ [])) × (c ≢ 10) × (flat_map ended lines ≡ script ++ (10 ∷ []))))

-- The definition gives the lines of a script, and nothing else is.
abbrev pub LinesStand : List ℕ → Type 0
LinesStand script = AreLines script (lines_of script) × ((lines : List (List ℕ)) → AreLines script lines → lines ≡ lines_of script)

-- A script is its first line with the line feed and the rest, or one line that lacks it.
abbrev pub Splits : List ℕ → List ℕ → List ℕ → Type 0
Splits script line rest = (script ≡ ended line ++ rest) ⊎ ((script ≡ line) × (rest ≡ []))

-- The first line and what follows it: an empty script has no line.
abbrev pub CutsFirst : List ℕ → Option FirstLine → Type 0
CutsFirst script None = (script ≡ []) × (lines_of script ≡ [])
CutsFirst script (Some cut) =
    Splits script cut.line.now cut.rest.now × (lines_of script ≡ cut.line.now ∷ lines_of cut.rest.now) × (length cut.rest.now < length script)
