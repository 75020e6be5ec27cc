-- What the functions make on the way to a merge.
use Rattle.std.specs.Prelude.{ℕ, suc, ◌+◌, ◌*◌, List, [], ◌∷◌, ◌++◌, map}
use Rattle.raid_message.specs.declared.letter.Step.{Step}

-- a step with its server's number
abbrev pub tag : ℕ → Step → ℕ × Step
tag server step = (server, step)

-- the journals one after another, numbered from k on
abbrev pub flat : ℕ → List (List Step) → List (ℕ × Step)
flat k [] = []
flat k (journal ∷ journals) = map (tag k) journal ++ flat (suc k) journals

-- the clock and the server's number as one number, which is below another's where the one step comes before the other: server numbers
-- are below 65,536
abbrev pub key : ℕ × Step → ℕ
key a = a.1.clock * 65536 + a.0
