-- What the table of stamps says of a view.
use Rattle.std.specs.Prelude.{◌≡◌, ℕ, ◌<◌, nat_lt, List, slice_index, vec_len, All, ⊤}
use Rattle.std.specs.List.{list_any}
use Rattle.raid_base.specs.declared.names.Item.{Item}
use Rattle.raid_base.specs.declared.entry.Entry.{Entry}
use Rattle.raid_base.specs.declared.entry.Entry.TheVariants.{Read, Commit}
use Rattle.raid_base.specs.declared.entry.Noted.{Noted}
use Rattle.raid_rules.specs.Verdicts.{is_later_read, is_later_write}
use Rattle.raid_tables.specs.declared.stamps.Stamps.{Stamps}

-- the table answers, for each item and stamp, whether a later one has read or written it
pub record KnowsStamps (s : Stamps) (view : List Noted) : Type 0 where
  pub reads : (x : Item) (k : ℕ) → list_any (is_later_read k x) view ≡ nat_lt k (slice_index s.reads.items x.0)
  pub writes : (x : Item) (k : ℕ) → list_any (is_later_write k x) view ≡ nat_lt k (slice_index s.writes.items x.0)

-- there is a place for each item that the entry reads or writes
abbrev pub HasStampRoom : Stamps → Entry → Type 0
HasStampRoom s (Read t x site) = x.0 < vec_len s.reads
HasStampRoom s (Commit t request applied) = All (λ w. w.0.0 < vec_len s.writes) request.writes
HasStampRoom s other = ⊤
