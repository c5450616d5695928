-- The routes of the desk, and which one a path and a method name.
use Rattle.std.specs.Prelude.{ℕ, List, [], ◌∷◌, ◌++◌, ◌&&◌, ◌||◌, ◌==◌, not, length, Bool}
use Rattle.std.specs.Prelude.{true, false, cond, if◌then◌else◌, codes, bytes_eq, Option, Some, None}
use Rattle.matchit.specs.Rows.{RowsOf}
use Rattle.matchit.specs.Seek.{has_slash}
use Rattle.hq_requests.specs.declared.table.Methods.{Methods}
use Rattle.hq_requests.specs.declared.table.Methods.TheVariants.{Get, Post, GetOrDelete}
use Rattle.hq_requests.specs.declared.table.Role.{Role}
use Rattle.hq_requests.specs.declared.table.Role.TheVariants.{Customer, Relay, RelayForAll}
use Rattle.hq_requests.specs.declared.table.Role.TheVariants.{RelayFrom}
use Rattle.hq_requests.specs.declared.table.Route.{Route}
use Rattle.hq_requests.specs.declared.table.Route.TheVariants.{Messages, MessagesAfter, Show, Hold}
use Rattle.hq_requests.specs.declared.table.Route.TheVariants.{Release, Requeue, Delete, HoldAll}
use Rattle.hq_requests.specs.declared.table.Route.TheVariants.{ReleaseAll, DeleteAll, Import, Lines}
use Rattle.hq_requests.specs.declared.table.Route.TheVariants.{LinesAfter, PutLine, DropLine, Check}
use Rattle.hq_requests.specs.declared.table.Route.TheVariants.{Notices, NoticesAfter, Notice, Usage}
use Rattle.hq_requests.specs.declared.table.Route.TheVariants.{Report, Submit, Outcome, Due, Sweep}
use Rattle.hq_requests.specs.declared.table.Route.TheVariants.{History, HistoryBefore, FindHistory}
use Rattle.hq_requests.specs.declared.table.Route.TheVariants.{MessagesByBody, ShowByBody}
use Rattle.hq_requests.specs.declared.table.Route.TheVariants.{NoticesByBody, NoticeByBody, Find}
use Rattle.hq_requests.specs.declared.table.Route.TheVariants.{HoldMatching, ReleaseMatching}
use Rattle.hq_requests.specs.declared.table.Route.TheVariants.{DeleteMatching, Limits}
use Rattle.hq_requests.specs.declared.table.Route.TheVariants.{HistoryByBody, Admit}

-- whose key the path of these methods takes
abbrev pub role_of : Methods → Role
role_of (Get role route) = role
role_of (Post role route) = role
role_of (GetOrDelete role first second) = role

-- what these ask for changes nothing that is kept, and all else may change something
abbrev pub changes : Route → Bool
changes Messages = false
changes MessagesAfter = false
changes MessagesByBody = false
changes Show = false
changes ShowByBody = false
changes Find = false
changes Lines = false
changes LinesAfter = false
changes Admit = false
changes Check = false
changes Notices = false
changes NoticesAfter = false
changes NoticesByBody = false
changes Notice = false
changes NoticeByBody = false
changes History = false
changes HistoryBefore = false
changes HistoryByBody = false
changes FindHistory = false
changes Usage = false
changes Limits = false
changes Report = false
changes Due = false
changes _ = true

-- what stands for a parameter at the end of a pattern: it is no byte
abbrev pub parameter : ℕ
parameter = 256

abbrev pub with_parameter : List ℕ → List ℕ
with_parameter text = text ++ parameter ∷ []

-- the routes of the desk: each path, its method, whose key it takes, and what it asks for; in the
-- order of the patterns
unfoldable pub routes : RowsOf Methods
routes =
    (with_parameter (codes "/relay/admit/"), Post Relay Admit)
    ∷ (with_parameter (codes "/relay/delete-matching/"), Post Relay DeleteMatching)
    ∷ (codes "/relay/due-from", Post RelayFrom Due)
    ∷ (with_parameter (codes "/relay/due/"), Post Relay Due)
    ∷ (codes "/relay/due", Post RelayForAll Due)
    ∷ (with_parameter (codes "/relay/find/"), Post Relay Find)
    ∷ (with_parameter (codes "/relay/history-find/"), Post Relay FindHistory)
    ∷ (with_parameter (codes "/relay/history/"), Post Relay HistoryByBody)
    ∷ (with_parameter (codes "/relay/hold-matching/"), Post Relay HoldMatching)
    ∷ (with_parameter (codes "/relay/message/"), Post Relay ShowByBody)
    ∷ (with_parameter (codes "/relay/messages/"), Post Relay MessagesByBody)
    ∷ (with_parameter (codes "/relay/notice/"), Post Relay NoticeByBody)
    ∷ (with_parameter (codes "/relay/notices/"), Post Relay NoticesByBody)
    ∷ (with_parameter (codes "/relay/outcome/"), Post Relay Outcome)
    ∷ (with_parameter (codes "/relay/release-matching/"), Post Relay ReleaseMatching)
    ∷ (with_parameter (codes "/relay/submit/"), Post Relay Submit)
    ∷ (codes "/relay/sweep-from", Post RelayFrom Sweep)
    ∷ (with_parameter (codes "/relay/sweep/"), Post Relay Sweep)
    ∷ (codes "/relay/sweep", Post RelayForAll Sweep)
    ∷ (codes "/relay/usage-from", Post RelayFrom Usage)
    ∷ (codes "/relay/usage", Post RelayForAll Usage)
    ∷ (codes "/v1/check", Post Customer Check)
    ∷ (codes "/v1/delete-all", Post Customer DeleteAll)
    ∷ (codes "/v1/delete-matching", Post Customer DeleteMatching)
    ∷ (codes "/v1/find", Post Customer Find)
    ∷ (with_parameter (codes "/v1/history-before/"), Get Customer HistoryBefore)
    ∷ (codes "/v1/history-find", Post Customer FindHistory)
    ∷ (codes "/v1/history", Get Customer History)
    ∷ (codes "/v1/hold-all", Post Customer HoldAll)
    ∷ (codes "/v1/hold-matching", Post Customer HoldMatching)
    ∷ (with_parameter (codes "/v1/hold/"), Post Customer Hold)
    ∷ (codes "/v1/import", Post Customer Import)
    ∷ (codes "/v1/limits", Get Customer Limits)
    ∷ (codes "/v1/line-drop", Post Customer DropLine)
    ∷ (codes "/v1/line-put", Post Customer PutLine)
    ∷ (codes "/v1/lines-after", Post Customer LinesAfter)
    ∷ (codes "/v1/lines", Get Customer Lines)
    ∷ (with_parameter (codes "/v1/message/"), GetOrDelete Customer Show Delete)
    ∷ (with_parameter (codes "/v1/messages-after/"), Get Customer MessagesAfter)
    ∷ (codes "/v1/messages", Get Customer Messages)
    ∷ (with_parameter (codes "/v1/notice/"), Get Customer Notice)
    ∷ (with_parameter (codes "/v1/notices-after/"), Get Customer NoticesAfter)
    ∷ (codes "/v1/notices", Get Customer Notices)
    ∷ (codes "/v1/release-all", Post Customer ReleaseAll)
    ∷ (codes "/v1/release-matching", Post Customer ReleaseMatching)
    ∷ (with_parameter (codes "/v1/release/"), Post Customer Release)
    ∷ (codes "/v1/report", Get Customer Report)
    ∷ (with_parameter (codes "/v1/requeue/"), Post Customer Requeue)
    ∷ (codes "/v1/usage", Get Customer Usage)
    ∷ []

-- the path is the pattern's bytes; a parameter at the pattern's end takes the rest, one segment of
-- at least one byte
abbrev pub fits : List ℕ → List ℕ → Bool
fits [] [] = true
fits [] (b ∷ path) = false
fits (x ∷ pattern) [] = false
fits (x ∷ pattern) (b ∷ path) = (x == b && fits pattern path)
    || (x == parameter && length pattern == 0 && not (has_slash (b ∷ path)))

-- the first row that the path fits
abbrev pub first_fit : {K : Type 0} → RowsOf K → List ℕ → Option K
first_fit [] path = None
first_fit ((pattern, k) ∷ rest) path = cond (fits pattern path) (Some k) (first_fit rest path)

-- the methods of a path, where the desk has the path
unfoldable pub methods_at : List ℕ → Option Methods
methods_at path = first_fit routes path

-- the one that is asked, where the method is that one
abbrev pub at_method : List ℕ → List ℕ → Role × Route → Option (Role × Route) →
    Option (Role × Route)
at_method method wanted asked others = if bytes_eq method wanted then Some asked else others

-- whose key a method takes, and what it asks for
unfoldable pub route_of : Methods → List ℕ → Option (Role × Route)
route_of (Get role route) method = at_method method (codes "GET") (role, route) None
route_of (Post role route) method = at_method method (codes "POST") (role, route) None
route_of (GetOrDelete role first second) method = at_method method (codes "GET") (role, first)
    (at_method method (codes "DELETE") (role, second) None)

-- what follows the last slash, or all of it
abbrev pub last_segment : List ℕ → List ℕ
last_segment [] = []
last_segment (b ∷ rest) = cond (has_slash (b ∷ rest)) (last_segment rest) (b ∷ rest)
