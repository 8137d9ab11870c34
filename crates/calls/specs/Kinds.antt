-- The numbers of the kinds, as document 01 has them.
-- Assumes nothing.
use Rattle.std.specs.Prelude.{ℕ, ◌≡◌, ◌≤◌, Result, MatchResult}
use Rattle.calls.specs.declared.kind.Kind.{Kind}
use Rattle.calls.specs.declared.kind.Kind.TheVariants.{Step, ModeWrite, PreloadWrite, CompareWrite, RouteWrite, MaskWrite, Start, Halt, Snapshot, SoftPreload, CountRead, SnapshotRead, ChannelStatus, SourceWrite, PinDataWrite, PinSafeDataWrite, PinSafeEnableWrite, PinLevelRead, VirtualDataWrite, VirtualSafeDataWrite, VirtualSafeEnableWrite, VirtualDataRead, ControlWrite, SweWrite, SafemodeClear, IntervalWrite, WatchdogEnableWrite, WatchdogKick, TimestampRead, BoardStatus, FilterWrite}
use Rattle.calls.specs.declared.kind.UnknownKind.{UnknownKind}

abbrev pub number_of : Kind → ℕ
number_of Step = 0
number_of ModeWrite = 1
number_of PreloadWrite = 2
number_of CompareWrite = 3
number_of RouteWrite = 4
number_of MaskWrite = 5
number_of Start = 6
number_of Halt = 7
number_of Snapshot = 8
number_of SoftPreload = 9
number_of CountRead = 10
number_of SnapshotRead = 11
number_of ChannelStatus = 12
number_of SourceWrite = 13
number_of PinDataWrite = 14
number_of PinSafeDataWrite = 15
number_of PinSafeEnableWrite = 16
number_of PinLevelRead = 17
number_of VirtualDataWrite = 18
number_of VirtualSafeDataWrite = 19
number_of VirtualSafeEnableWrite = 20
number_of VirtualDataRead = 21
number_of ControlWrite = 22
number_of SweWrite = 23
number_of SafemodeClear = 24
number_of IntervalWrite = 25
number_of WatchdogEnableWrite = 26
number_of WatchdogKick = 27
number_of TimestampRead = 28
number_of BoardStatus = 29
number_of FilterWrite = 30

-- the kind with this number, or an error where no kind has it
abbrev pub IsKind : ℕ → Result Kind UnknownKind → Type 0
IsKind n r = MatchResult r (λ kind. number_of kind ≡ n) (λ _. 31 ≤ n)
