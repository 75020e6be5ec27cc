-- What the table of Commits says of a view.
use Rattle.std.specs.Prelude.{◌≡◌, ℕ, ◌<◌, nat_lt, List, slice_index, vec_len, All, ⊤}
use Rattle.std.specs.List.{list_any}
use Rattle.raid_base.specs.declared.names.Item.{Item}
use Rattle.raid_base.specs.declared.entry.Entry.{Entry}
use Rattle.raid_base.specs.declared.entry.Entry.TheVariants.{Commit}
use Rattle.raid_base.specs.declared.entry.Noted.{Noted}
use Rattle.raid_rules.specs.Verdicts.{is_past}
use Rattle.raid_tables.specs.declared.commits.Commits.{Commits}

-- the table answers, for each item and number, whether a Commit with a larger number wrote it
pub record KnowsCommits (c : Commits) (view : List Noted) : Type 0 where
  pub past : (x : Item) (k : ℕ) → list_any (is_past k x) view ≡ nat_lt k (slice_index c.numbers.items x.0)

-- there is a place for each item that the entry writes
abbrev pub HasCommitRoom : Commits → Entry → Type 0
HasCommitRoom c (Commit t request applied) = All (λ w. w.0.0 < vec_len c.numbers) request.writes
HasCommitRoom c other = ⊤
