-- The table of letters: which messages go from which server to which.
use Rattle.std.specs.Prelude.{ℕ, zero, suc, ◌+◌, ◌==◌, nat_le, Bool, true, false, ◌&&◌, ◌||◌}
use Rattle.raid_workload.specs.declared.workload.Workload.{Workload}
use Rattle.raid_message.specs.declared.letter.Message.{Message}
use Rattle.raid_message.specs.declared.letter.Message.TheVariants as letters
use Rattle.raid_steps.specs.State.{Out}

-- the server's number is that of a site of the workload
abbrev pub is_site_number : Workload → ℕ → Bool
is_site_number w n = nat_le 2 n && nat_le n (w.sites + 1)

-- the monitor tells a site what to do
abbrev pub is_order : Message → Bool
is_order letters.Stop = true
is_order letters.Return = true
is_order other = false

-- the monitor tells the sequencer that a session has ended
abbrev pub is_news : Message → Bool
is_news (letters.Down s session) = true
is_news other = false

-- the sequencer tells the monitor how many have ended
abbrev pub is_count : Message → Bool
is_count (letters.Ends count) = true
is_count other = false

-- the sequencer tells a site
abbrev pub is_note : Message → Bool
is_note (letters.Welcome v next) = true
is_note (letters.ReadDo t ask x home session) = true
is_note (letters.Serving t ask s) = true
is_note (letters.Apply t number) = true
is_note (letters.Done t) = true
is_note (letters.Drop t again) = true
is_note (letters.DownNote s) = true
is_note (letters.UpNote s session) = true
is_note (letters.CopyDo x target session) = true
is_note other = false

-- a site tells the monitor that it has stopped
abbrev pub is_farewell : Message → Bool
is_farewell letters.Halted = true
is_farewell other = false

-- a site asks, or tells, the sequencer
abbrev pub is_request : Message → Bool
is_request letters.Hello = true
is_request (letters.Begin t) = true
is_request (letters.ReadAsk t ask x) = true
is_request (letters.CommitAsk t request) = true
is_request (letters.EndAsk t cause reads) = true
is_request (letters.Ack t) = true
is_request (letters.CopyDone x version) = true
is_request other = false

-- a site tells a site
abbrev pub is_exchange : Message → Bool
is_exchange (letters.Value t ask value) = true
is_exchange (letters.Prepare t writes) = true
is_exchange (letters.Vote t answer) = true
is_exchange (letters.CopyValue x value version) = true
is_exchange other = false

-- what the monitor may send
abbrev pub may_monitor : Workload → Out → Bool
may_monitor w out = (out.0 == 1 && is_news out.2) || (is_site_number w out.0 && is_order out.2)

-- what the sequencer may send
abbrev pub may_sequencer : Workload → Out → Bool
may_sequencer w out = (out.0 == 0 && is_count out.2) || (is_site_number w out.0 && is_note out.2)

-- what a site may send
abbrev pub may_site : Workload → Out → Bool
may_site w out = (out.0 == 0 && is_farewell out.2) || (out.0 == 1 && is_request out.2) || (is_site_number w out.0 && is_exchange out.2)

-- what the server with this number may send
abbrev pub may_send : Workload → ℕ → Out → Bool
may_send w zero out = may_monitor w out
may_send w (suc zero) out = may_sequencer w out
may_send w (suc (suc k)) out = may_site w out
