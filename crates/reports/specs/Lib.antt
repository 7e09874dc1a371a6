-- What the two reductions of a dimension come to, and the report and the coordinates that they give: document 01, "The reduction" and "The report and
-- the coordinates"; document 02, Notes 4 to 6. The files named `Laws` say what the definitions come to; those named `Examples` hold them to numbers.
pub mod Reductions
pub mod Report
pub mod Surface
pub mod ReportExamples
pub mod SurfaceExamples
pub mod WideEnd
pub mod Examples
