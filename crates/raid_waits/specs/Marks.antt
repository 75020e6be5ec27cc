-- The marks of a search among the requests that wait: one for each.
use Rattle.std.specs.Prelude.{◌≡◌, ℕ, ◌<◌, Bool, true, false, List, [], length, slice_index_or}
use Rattle.raid_base.specs.declared.names.Txn.{Txn}
use Rattle.raid_base.specs.declared.request.Request.{Request}
use Rattle.raid_waits.specs.declared.search.Mark.{Mark}
use Rattle.raid_waits.specs.declared.search.Mark.TheVariants.{Unseen, Followed}
use Rattle.raid_waits.specs.Waiting.{Test, is_among}

-- the request is known to be waited for
abbrev pub is_found : Mark → Bool
is_found Unseen = false
is_found other = true

-- and all that it waits for are known to be
abbrev pub is_followed : Mark → Bool
is_followed Followed = true
is_followed other = false

-- the mark at a place, and the request
abbrev pub mark_at : List Mark → ℕ → Mark
mark_at marks k = slice_index_or marks k Unseen

abbrev pub request_at : List (Txn × Request) → ℕ → Txn × Request
request_at rs k = slice_index_or rs k (record { 0 = 0 }, record { reads = []; writes = []; under = [] })

-- a search for what a new request waits for has begun: found are those that itself waits for
pub record Begun (test : Test) (rs : List (Txn × Request)) (marks : List Mark) (t : Txn) (request : Request) : Type 0 where
  pub stranger : is_among rs t ≡ false
  pub itself : test t t request.writes ≡ false
  pub unfollowed : (k : ℕ) → is_followed (mark_at marks k) ≡ false
  pub found : (k : ℕ) → k < length rs → is_found (mark_at marks k) ≡ test (request_at rs k).0 t request.writes
