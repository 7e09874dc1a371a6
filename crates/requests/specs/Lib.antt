-- Calls as values: a question, a request, and what the call answers and leaves. The files named `Laws` say what the definitions come to.
pub mod Question
pub mod Chains
pub mod Call
pub mod LimitExamples
