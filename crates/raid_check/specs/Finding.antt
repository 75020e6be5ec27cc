-- What is found of a report.
use Rattle.std.specs.Prelude.{ℕ, ◌-◌, List, take, Option, Some, None}
use Rattle.raid_base.specs.declared.entry.Entry.{Entry}
use Rattle.raid_base.specs.declared.report.Report.{Report}
use Rattle.raid_workload.specs.declared.workload.Workload.{Workload}
use Rattle.raid_legal.specs.Legal as histories
use Rattle.raid_legal.specs.Serial as reports
use Rattle.raid_legal.specs.Switched as ends
use Rattle.raid_legal.specs.Sound as all
use Rattle.raid_check.specs.declared.finding.Finding.{Finding}
use Rattle.raid_check.specs.declared.finding.Finding.TheVariants.{Sound, Legal, Serial, Copies, Finished}

-- the entry with the number n is the first that isn't allowed: the entries before it are a legal history, and with it they aren't
pub record IsFirst (w : Workload) (h : List Entry) (n : ℕ) : Type 0 where
  pub before : histories.Legal w (take (n - 1) h)
  pub refused : histories.Legal w (take n h) → ⊥

-- the number of the first entry that isn't allowed; none where the history is legal
abbrev pub IsFirstIllegal : Workload → List Entry → Option ℕ → Type 0
IsFirstIllegal w h None = histories.Legal w h
IsFirstIllegal w h (Some n) = IsFirst w h n

-- what is found of a report: the first thing that doesn't hold, in the order of legal, serial, copies and finished; and where all do, it is sound
abbrev pub Finds : Workload → Report → Finding → Type 0
Finds w r (Legal n) = IsFirst w r.entries n
Finds w r Serial = histories.Legal w r.entries × (reports.Serial w r → ⊥)
Finds w r Copies = histories.Legal w r.entries × reports.Serial w r × (reports.Copies w r → ⊥)
Finds w r Finished = histories.Legal w r.entries × reports.Serial w r × reports.Copies w r × (ends.Finished w r.entries → ⊥)
Finds w r Sound = all.Sound w r
