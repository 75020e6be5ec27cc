-- What stands next on a line of a report, and what its lines are.
use Rattle.std.specs.Prelude.{ℕ, ℤ, if◌then◌else◌, List, [], ◌∷◌, Option, Some, None, codes, bytes_eq}
use Rattle.raid_base.specs.declared.names.Txn.{Txn}
use Rattle.raid_base.specs.declared.names.Item.{Item}
use Rattle.raid_base.specs.declared.names.Site.{Site}
use Rattle.raid_base.specs.declared.verdict.Kind.{Kind}
use Rattle.raid_base.specs.declared.verdict.Method.{Method}
use Rattle.raid_base.specs.declared.request.Request.{Request}
use Rattle.raid_base.specs.declared.entry.Entry.{Entry}
use Rattle.raid_base.specs.declared.entry.Entry.TheVariants.{Begin, Read, Wait, Commit, Abort, Ack, SwitchOn, SwitchEnd, Down, Up, Clear}
use Rattle.raid_base.specs.declared.entry.Act.{Act}
use Rattle.raid_base.specs.declared.entry.Act.TheVariants as acts
use Rattle.raid_base.specs.declared.entry.Cause.{Cause}
use Rattle.raid_base.specs.declared.entry.Cause.TheVariants as causes
use Rattle.raid_workload.specs.declared.workload.Workload.{Workload}
use Rattle.raid_pieces.specs.Reading.{◌>>=◌}
use Rattle.raid_pieces.specs.Numbers.{number_of, value_of}
use Rattle.raid_report.specs.Spelling.{Word}
use Rattle.raid_report.specs.Forms.{txn_of, site_of, item_of, pairs_of, vector_of, set_of, kind_of, method_of}

unfoldable pub word_at : List Word → Option (Word × List Word)
word_at [] = None
word_at (word ∷ words) = Some (word, words)

unfoldable pub keyword_at : List ℕ → List Word → Option (List Word)
keyword_at expected words = do
  word ← word_at words
  if bytes_eq word.0 expected then Some word.1 else None

unfoldable pub end_at : List Word → Option (Unit {0})
end_at [] = Some tt
end_at (word ∷ words) = None

unfoldable pub number_at : ℕ → List Word → Option (ℕ × List Word)
number_at most words = do
  word ← word_at words
  n ← number_of most word.0
  Some (n, word.1)

unfoldable pub value_at : List Word → Option (ℤ × List Word)
value_at words = do
  word ← word_at words
  z ← value_of word.0
  Some (z, word.1)

unfoldable pub txn_next : Workload → List Word → Option (Txn × List Word)
txn_next w words = do
  word ← word_at words
  t ← txn_of w word.0
  Some (t, word.1)

unfoldable pub site_at : Workload → List Word → Option (Site × List Word)
site_at w words = do
  word ← word_at words
  s ← site_of w word.0
  Some (s, word.1)

unfoldable pub item_at : Workload → List Word → Option (Item × List Word)
item_at w words = do
  word ← word_at words
  x ← item_of w word.0
  Some (x, word.1)

unfoldable pub kind_at : List Word → Option (Kind × List Word)
kind_at words = do
  word ← word_at words
  kind ← kind_of word.0
  Some (kind, word.1)

unfoldable pub method_at : List Word → Option (Method × List Word)
method_at words = do
  word ← word_at words
  method ← method_of word.0
  Some (method, word.1)

-- the words of a request: its reads, its writes and its vector, and what is left of the line
unfoldable pub request_at : List Word → Option (Word × Word × Word × List Word)
request_at words = do
  a ← keyword_at (codes "reads") words
  reads ← word_at a
  b ← keyword_at (codes "writes") reads.1
  writes ← word_at b
  c ← keyword_at (codes "under") writes.1
  under ← word_at c
  Some (reads.0, writes.0, under.0, under.1)

unfoldable pub request_of : Workload → Word → Word → Word → Option Request
request_of w reads writes under = do
  r ← pairs_of w reads
  s ← pairs_of w writes
  v ← vector_of w under
  Some (record { reads = r; writes = s; under = v })

-- ---- entries

unfoldable pub begin_line : Workload → List Word → Option Entry
begin_line w words = do
  t ← txn_next w words
  a ← keyword_at (codes "at") t.1
  home ← site_at w a
  none ← end_at home.1
  Some (Begin t.0 home.0)

unfoldable pub read_line : Workload → List Word → Option Entry
read_line w words = do
  t ← txn_next w words
  x ← item_at w t.1
  a ← keyword_at (codes "at") x.1
  s ← site_at w a
  none ← end_at s.1
  Some (Read t.0 x.0 s.0)

unfoldable pub wait_line : Workload → List Word → Option Entry
wait_line w words = do
  t ← txn_next w words
  parts ← request_at t.1
  none ← end_at parts.3
  request ← request_of w parts.0 parts.1 parts.2
  Some (Wait t.0 request)

unfoldable pub commit_line : Workload → List Word → Option Entry
commit_line w words = do
  t ← txn_next w words
  parts ← request_at t.1
  a ← keyword_at (codes "applied") parts.3
  sites ← word_at a
  none ← end_at sites.1
  request ← request_of w parts.0 parts.1 parts.2
  applied ← set_of w sites.0
  Some (Commit t.0 request applied)

unfoldable pub ended_at : Workload → List Word → Option Act
ended_at w words = do
  a ← keyword_at (codes "reads") words
  word ← word_at a
  none ← end_at word.1
  reads ← pairs_of w word.0
  Some (acts.Ended reads)

unfoldable pub nothing_at : List Word → Option Act
nothing_at words = do
  none ← end_at words
  Some acts.Nothing

unfoldable pub read_at : Workload → List Word → Option Act
read_at w words = do
  x ← item_at w words
  none ← end_at x.1
  Some (acts.Read x.0)

unfoldable pub commit_at : Workload → List Word → Option Act
commit_at w words = do
  parts ← request_at words
  none ← end_at parts.3
  request ← request_of w parts.0 parts.1 parts.2
  Some (acts.Commit request)

unfoldable pub refused_of : Workload → Word → List Word → Option Act
refused_of w word words =
    if bytes_eq word (codes "read") then read_at w words else
    (if bytes_eq word (codes "commit") then commit_at w words else None)

unfoldable pub refused_at : Workload → List Word → Option Act
refused_at w words = do
  word ← word_at words
  refused_of w word.0 word.1

unfoldable pub cause_of : Word → Option Cause
cause_of word =
    if bytes_eq word (codes "late") then Some causes.Late else
    (if bytes_eq word (codes "invalid") then Some causes.Invalid else
    (if bytes_eq word (codes "cycle") then Some causes.Cycle else
    (if bytes_eq word (codes "deadlock") then Some causes.Deadlock else
    (if bytes_eq word (codes "nocopy") then Some causes.NoCopy else None))))

unfoldable pub plain_abort : Workload → Txn → Word → List Word → Option Entry
plain_abort w t word words = do
  cause ← cause_of word
  act ← refused_at w words
  Some (Abort t cause act)

unfoldable pub ended_abort : Workload → Txn → Cause → List Word → Option Entry
ended_abort w t cause words = do
  act ← ended_at w words
  Some (Abort t cause act)

unfoldable pub home_abort : Txn → List Word → Option Entry
home_abort t words = do
  act ← nothing_at words
  Some (Abort t causes.HomeDown act)

unfoldable pub switch_abort : Txn → List Word → Option Entry
switch_abort t words = do
  k ← number_at 255 words
  act ← nothing_at k.1
  Some (Abort t (causes.SwitchOff k.0) act)

unfoldable pub stale_abort : Workload → Txn → List Word → Option Entry
stale_abort w t words = do
  word ← word_at words
  v ← vector_of w word.0
  act ← refused_at w word.1
  Some (Abort t (causes.Stale v) act)

unfoldable pub abort_of : Workload → Txn → Word → List Word → Option Entry
abort_of w t word words =
    if bytes_eq word (codes "own") then ended_abort w t causes.Own words else
    (if bytes_eq word (codes "overflow") then ended_abort w t causes.Overflow words else
    (if bytes_eq word (codes "switchoff") then switch_abort t words else
    (if bytes_eq word (codes "homedown") then home_abort t words else
    (if bytes_eq word (codes "stale") then stale_abort w t words else plain_abort w t word words))))

unfoldable pub abort_line : Workload → List Word → Option Entry
abort_line w words = do
  t ← txn_next w words
  word ← word_at t.1
  abort_of w t.0 word.0 word.1

unfoldable pub ack_line : Workload → List Word → Option Entry
ack_line w words = do
  t ← txn_next w words
  s ← site_at w t.1
  none ← end_at s.1
  Some (Ack t.0 s.0)

unfoldable pub switch_on_line : List Word → Option Entry
switch_on_line words = do
  k ← number_at 255 words
  kind ← kind_at k.1
  method ← method_at kind.1
  none ← end_at method.1
  Some (SwitchOn k.0 kind.0 method.0)

unfoldable pub switch_end_line : List Word → Option Entry
switch_end_line words = do
  k ← number_at 255 words
  none ← end_at k.1
  Some (SwitchEnd k.0)

unfoldable pub down_line : Workload → List Word → Option Entry
down_line w words = do
  s ← site_at w words
  none ← end_at s.1
  Some (Down s.0)

unfoldable pub up_line : Workload → List Word → Option Entry
up_line w words = do
  s ← site_at w words
  a ← keyword_at (codes "session") s.1
  n ← number_at 4294967295 a
  none ← end_at n.1
  Some (Up s.0 n.0)

unfoldable pub clear_line : Workload → List Word → Option Entry
clear_line w words = do
  s ← site_at w words
  x ← item_at w s.1
  a ← keyword_at (codes "at") x.1
  n ← number_at 4294967295 a
  none ← end_at n.1
  Some (Clear s.0 x.0 n.0)

-- an entry by its first word
unfoldable pub entry_of : Workload → Word → List Word → Option Entry
entry_of w word words =
    if bytes_eq word (codes "begin") then begin_line w words else
    (if bytes_eq word (codes "read") then read_line w words else
    (if bytes_eq word (codes "wait") then wait_line w words else
    (if bytes_eq word (codes "commit") then commit_line w words else
    (if bytes_eq word (codes "abort") then abort_line w words else
    (if bytes_eq word (codes "ack") then ack_line w words else
    (if bytes_eq word (codes "switchon") then switch_on_line words else
    (if bytes_eq word (codes "switchend") then switch_end_line words else
    (if bytes_eq word (codes "down") then down_line w words else
    (if bytes_eq word (codes "up") then up_line w words else
    (if bytes_eq word (codes "clear") then clear_line w words else None))))))))))

unfoldable pub entry_at : Workload → List Word → Option Entry
entry_at w words = do
  word ← word_at words
  entry_of w word.0 word.1
