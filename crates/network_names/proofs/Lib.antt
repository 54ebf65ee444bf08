mod Noting
mod Verdicts
