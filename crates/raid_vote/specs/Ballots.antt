-- The open ballots of a home, and what is done with them.
use Rattle.std.specs.Prelude.{ℕ, ◌==◌, Bool, not, List, [], ◌∷◌, ◌++◌, length, filter, map, find, if◌then◌else◌}
use Rattle.std.specs.List.{list_any}
use Rattle.std.specs.Option.{option_map_or}
use Rattle.raid_base.specs.declared.names.Txn.{Txn}
use Rattle.raid_base.specs.declared.names.Site.{Site}
use Rattle.raid_base.specs.Names.{is_txn, is_site}
use Rattle.raid_vote.specs.declared.changes.Ballot.{Ballot}

-- the open ballots, in the order in which they were started, and for how many there is room
pub record Held : Type 0 where
  pub ballots : List Ballot
  pub room : ℕ

-- the ballot is one of the transaction
abbrev pub is_of : Txn → Ballot → Bool
is_of t b = is_txn t b.txn

-- the transaction has an open ballot
abbrev pub is_open : Held → Txn → Bool
is_open h t = list_any (is_of t) h.ballots

-- the sites whose votes the transaction awaits, none where it has no open ballot
abbrev pub awaited : Held → Txn → List Site
awaited h t = option_map_or (λ (b : Ballot). b.awaited) (find (is_of t) h.ballots) []

-- the ballot awaits no vote
abbrev pub is_ready : Ballot → Bool
is_ready b = length b.awaited == 0

-- some open ballot awaits no vote
abbrev pub is_any_ready : Held → Bool
is_any_ready h = list_any is_ready h.ballots

-- the sites without one
abbrev pub without : Site → List Site → List Site
without s sites = filter (λ r. not (is_site s r)) sites

-- the ballot with other sites awaited, given what becomes of them
abbrev pub awaiting : (List Site → List Site) → Ballot → Ballot
awaiting f b = record b { awaited = f b.awaited }

-- the same, where it is one of the transaction
abbrev pub changed : Txn → (List Site → List Site) → Ballot → Ballot
changed t f b = if is_of t b then awaiting f b else b

-- a ballot more is open
abbrev pub started : Txn → List Site → Held → Held
started t sites h = record h { ballots = h.ballots ++ record { txn = t; awaited = sites } ∷ [] }

-- the transaction's ballot awaits other sites, and those of others what they did
abbrev pub change : Txn → (List Site → List Site) → Held → Held
change t f h = record h { ballots = map (changed t f) h.ballots }

-- all ballots await other sites
abbrev pub change_all : (List Site → List Site) → Held → Held
change_all f h = record h { ballots = map (awaiting f) h.ballots }

-- the transaction's ballot is closed
abbrev pub close : Txn → Held → Held
close t h = record h { ballots = filter (λ b. not (is_of t b)) h.ballots }
