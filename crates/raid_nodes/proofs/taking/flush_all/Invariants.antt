use Rattle.std.proofs.Common.{◌≡◌, ◌<◌, ◌≤◌, ℕ, length}
use Rattle.std.specs.Prelude.{slice_index_or}
use Rattle.raid_link.specs.Link.{all_sent, SameSender}
use Rattle.raid_link.specs.declared.ends.Sender.{Sender}
use Rattle.raid_nodes.proofs.taking.flush_all.Given as goal

-- those so far were flushed
abbrev pub invariant-loop-sender : goal.invariant-loop-sender
invariant-loop-sender l =
    record {
      sent : (k : ℕ) (d : Sender) → k < length l.initial.senders → all_sent (slice_index_or l.senders k d) ≡ all_sent (slice_index_or l.initial.senders k d);
      same : (k : ℕ) (d : Sender) → k < length l.initial.senders → SameSender (slice_index_or l.initial.senders k d) (slice_index_or l.senders k d);
    }
