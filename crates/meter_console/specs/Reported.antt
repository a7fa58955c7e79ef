-- The view that contracts have of moments that are reported.
use Rattle.meter_console.specs.declared.reported.ReportedMoments.{ReportedMoments}

-- the source of the moments
abbrev pub source_of : {S E : Type 0} → ReportedMoments S E → S
source_of moments = moments.source
